-- A list of calls, one after the other: each finds what those before it left, and is accepted or refused. What is left is a course, and
-- `onward` gives the course after one call.
use Rattle.std.specs.Prelude.{ℕ, zero, suc, ◌+◌, ◌≡◌, Bool, true, false, cond, ◌&&◌, ◌||◌, List, [], ◌∷◌}

-- What a list of calls comes to.
abbrev pub after : {Course Call : Type 0} → (Course → Call → Course) → Course → List Call → Course
after onward c [] = c
after onward c (call ∷ calls) = after onward (onward c call) calls

-- Something holds at each accepted call of a list.
abbrev pub AtEach : {Course Call : Type 0} → (Course → Call → Course) → (Course → Call → Bool) → (Course → Call → Type 0) → Course → List Call → Type 0
AtEach onward accepted P c [] = Unit {0}
AtEach onward accepted P c (call ∷ calls) = (accepted c call ≡ true → P c call) × AtEach onward accepted P (onward c call) calls

-- How many calls of a list are accepted.
abbrev pub accepted_in : {Course Call : Type 0} → (Course → Call → Course) → (Course → Call → Bool) → Course → List Call → ℕ
accepted_in onward accepted c [] = 0
accepted_in onward accepted c (call ∷ calls) = cond (accepted c call) 1 0 + accepted_in onward accepted (onward c call) calls

-- Something happens at one of the first k accepted calls of a list.
abbrev pub happens_within : {Course Call : Type 0} → (Course → Call → Course) → (Course → Call → Bool) → (Course → Call → Bool) → ℕ → Course → List Call → Bool
happens_within onward accepted happens k c [] = false
happens_within onward accepted happens zero c (call ∷ calls) = false
happens_within onward accepted happens (suc k) c (call ∷ calls) =
    (accepted c call && happens c call)
    || happens_within onward accepted happens (cond (accepted c call) k (suc k)) (onward c call) calls
