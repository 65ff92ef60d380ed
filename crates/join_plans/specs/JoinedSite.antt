-- The first site with the plan that joins both, as a site file.
use Rattle.std.specs.Prelude.{ℕ, List, Result, Ok, Err}
use Rattle.refusals.specs.declared.Refusal.{Refusal}
use Rattle.site.specs.declared.Site.{Site}
use Rattle.site.specs.Writing.{written_of, out_of}
use Rattle.joining.specs.declared.PlanList.{PlanList}
use Rattle.joining.specs.Joining.{joined_of}
use Rattle.joining.specs.Decided.{with_list}

-- A site's plan.
abbrev pub plan_of : Site → PlanList
plan_of x = record { rows = x.plan; count = x.entries }

abbrev pub joined_plans : Site → Site → Result PlanList Refusal
joined_plans x works = joined_of (plan_of x) (plan_of works)

abbrev pub with_joined : Site → Result PlanList Refusal → Result Site Refusal
with_joined x (Ok list) = Ok (with_list x list)
with_joined x (Err refusal) = Err refusal

-- The site with the joined plan, or the join's refusal.
unfoldable pub joined_site : Site → Site → Result Site Refusal
joined_site x works = with_joined x (joined_plans x works)

-- What writing into the buffer d answers: 14 or 17 of the join, and then 14 of the site; and what d then holds.
abbrev pub written_if : Result Site Refusal → List ℕ → Result ℕ Refusal
written_if (Ok y) d = written_of y d
written_if (Err refusal) d = Err refusal

abbrev pub out_if : Result Site Refusal → List ℕ → List ℕ
out_if (Ok y) d = out_of y d
out_if (Err refusal) d = d

abbrev pub join_written : Site → Site → List ℕ → Result ℕ Refusal
join_written x works d = written_if (joined_site x works) d

abbrev pub join_out : Site → Site → List ℕ → List ℕ
join_out x works d = out_if (joined_site x works) d
