-- By computation.
use mathlib.Core.Path.{refl}
use Rattle.turns.specs.Turn.{next_of}
use Rattle.desk.specs.Desk.{fresh_desk, enrolled_at, has_place, spoilt_desk, refusal_of, with_cabinet, tries_without, without_cabinet, enrol_of, remove_of}
use Rattle.desk.specs.Tick.{is_again, again_of, before_first, polled_at, passed_of, refused_of, tick_of}
use Rattle.desk.specs.Worked.{Worked}

pub worked : Worked
unfolding fresh_desk enrolled_at has_place spoilt_desk refusal_of with_cabinet tries_without without_cabinet enrol_of remove_of is_again again_of before_first polled_at passed_of refused_of tick_of next_of
worked = record {
  all_answer = refl;
  one_silent = refl;
  answers_late = refl;
  alone = refl;
  nobody = refl;
  lowest_again = refl;
  removed = refl;
  enrolled_again = refl;
  alone_again = refl;
  another_removed = refl;
  refused = refl;
}
