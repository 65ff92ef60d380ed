-- Document 02, A14: "The centre's desk polls cabinets 0-31 over one line." The desk, who is enrolled, and what enrolling and removing do.
use Rattle.std.specs.Option.{is_none}
use Rattle.refusals.specs.declared.Refusal.{Refusal}
use Rattle.refusals.specs.declared.Refusal.TheVariants.{SpoiltState, BadNumber}
use Rattle.std.specs.Prelude.{ℕ, Option, Some, None, ◌-◌, Bool, true, false, cond, ◌||◌, ltb, eqb, get_or, set, replicate}
use Rattle.desk.specs.declared.Desk.{Desk}
use Rattle.desk.specs.declared.Changed.{Changed}

-- A fresh desk: none is enrolled, and nobody was polled.
unfoldable pub fresh_desk : Desk
fresh_desk = record { enrolled = replicate 32 false; turn = 0; tries = 0 }

-- Whether a cabinet is enrolled; none past 31 is.
unfoldable pub enrolled_at : Desk → ℕ → Bool
enrolled_at d cabinet = cond (ltb cabinet 32) (get_or d.enrolled cabinet false) false

-- The same of a place in the round, which goes from 1 to 32: cabinet 0 has place 1.
unfoldable pub has_place : Desk → ℕ → Bool
has_place d place = enrolled_at d (place - 1)

-- "13 for a desk whose turn is above 31 or whose tries exceed 3, then 18. 18: cabinet number above 31, or an answer above 1, an ignored one
-- too." SpoiltState is 13, and BadNumber 18.
unfoldable pub spoilt_desk : Desk → Bool
spoilt_desk d = ltb 31 d.turn || ltb 3 d.tries

unfoldable pub refusal_of : Desk → ℕ → ℕ → Option Refusal
refusal_of d most number = cond (spoilt_desk d) (Some SpoiltState) (cond (ltb most number) (Some BadNumber) None)

-- "It can enrol or remove a cabinet; repeating either changes nothing."
unfoldable pub with_cabinet : Desk → ℕ → Desk
with_cabinet d cabinet =
    cond (enrolled_at d cabinet) d (record { enrolled = set d.enrolled cabinet true; turn = d.turn; tries = d.tries })

-- "Removing the one in turn passes the turn at the next tick, whose answer is ignored, even if it is enrolled again first": its three tries
-- are up. Where nobody was polled, none is in turn.
unfoldable pub tries_without : Desk → ℕ → ℕ
tries_without d cabinet = cond (eqb cabinet d.turn) (cond (eqb d.tries 0) 0 3) d.tries

unfoldable pub without_cabinet : Desk → ℕ → Desk
without_cabinet d cabinet =
    cond (enrolled_at d cabinet) (record { enrolled = set d.enrolled cabinet false; turn = d.turn; tries = tries_without d cabinet }) d

-- "Refused, the desk is unchanged."
unfoldable pub enrol_of : Desk → ℕ → Changed
enrol_of d cabinet = record { refusal = refusal_of d 31 cabinet; desk = cond (is_none (refusal_of d 31 cabinet)) (with_cabinet d cabinet) d }

unfoldable pub remove_of : Desk → ℕ → Changed
remove_of d cabinet = record { refusal = refusal_of d 31 cabinet; desk = cond (is_none (refusal_of d 31 cabinet)) (without_cabinet d cabinet) d }
