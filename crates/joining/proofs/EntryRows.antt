-- A list of entries and its numbers, there and back.
use Prim.Native.Nat.{ℕ, zero, suc, ◌+◌, ◌-◌, ◌*◌, ◌≤◌, ◌<◌}
use mathlib.Core.Path.{◌≡◌, refl, sym, ap, ◌∙◌}
use mathlib.Core.Bool.{false}
use mathlib.Core.List.{List, [], ◌∷◌, ◌++◌, append_assoc, append-nil}
use native.Mathlib.Omega.{arith}
use native.Mathlib.Numerals.{unary_clauses}
use borrow.Author.Tests.{ltb-true, ltb-false}
use lib.Dec.{ltb}
use lib.ListN.{length, length-append, length-replicate, length-take, get_or, get_or-replicate, get_or-eq_default, take, drop, replicate}
use lib.Seq.{drop-cons, get_or-append-add}
use Rattle.loops.proofs.Cases.{by_test}
use Rattle.ranges.specs.declared.Section.TheVariants.{Entries}
use Rattle.ranges.proofs.RangeLaws.{bad_within}
use Rattle.site.proofs.SpoiltLaws.{sound}
use Rattle.plan.specs.declared.Entry.{Entry}
use Rattle.plan.specs.Entry.{entry_of}
use Rattle.joining.specs.declared.PlanList.{PlanList}
use Rattle.joining.specs.Joining.{entries_from, entries_of, numbers_of, list_of, spoilt_list}
use Rattle.joining.specs.EndToEnd.{rows_of, end_to_end, both_counts}
use Rattle.joining.proofs.FillingLaws.{numbers_length, numbers_append, entries_length}

-- A number of the rows is one of its entry's.
pub number_of : (v : List ℕ) (i j : ℕ) → j < 5 → get_or v (i * 5 + j) 0 ≡ get_or (numbers_of (entry_of v i ∷ [])) j 0
number_of v i zero h = let e : i * 5 + 0 ≡ i * 5 = omega arith in ap (λ (k : ℕ). get_or v k 0) e
number_of v i (suc zero) h = refl
number_of v i (suc (suc zero)) h = refl
number_of v i (suc (suc (suc zero))) h = refl
number_of v i (suc (suc (suc (suc zero)))) h = refl
number_of v i (suc (suc (suc (suc (suc j))))) h = absurd (omega arith)

-- The entry whose numbers stand behind i others' is entry i.
pub entry_there : (pre : List ℕ) (e : Entry) (rest : List ℕ) (i : ℕ) → length pre ≡ i * 5 → entry_of (pre ++ (numbers_of (e ∷ []) ++ rest)) i ≡ e
entry_there pre e rest i h =
    let xs = numbers_of (e ∷ []) ++ rest in
    let at : (j : ℕ) → get_or (pre ++ xs) (i * 5 + j) 0 ≡ get_or xs j 0 =
    λ j. ap (λ (k : ℕ). get_or (pre ++ xs) (k + j) 0) (sym h) ∙ get_or-append-add pre xs j 0 in
    let z : i * 5 ≡ i * 5 + 0 = omega arith in
    let at_zero : get_or (pre ++ xs) (i * 5) 0 ≡ e.days = ap (λ (k : ℕ). get_or (pre ++ xs) k 0) z ∙ at 0 in
    rw (at_zero, at 1, at 2, at 3, at 4)

entries_there : (es : List Entry) (pre rest : List ℕ) (i : ℕ) → length pre ≡ i * 5 → entries_from (pre ++ (numbers_of es ++ rest)) i (length es) ≡ es
entries_there [] pre rest i h = refl
entries_there (e ∷ es) pre rest i h =
    let row = numbers_of (e ∷ []) in
    let m : length (pre ++ row) ≡ (i + 1) * 5 = length-append pre row ∙ omega arith in
    let same : pre ++ (numbers_of (e ∷ es) ++ rest) ≡ pre ++ row ++ (numbers_of es ++ rest) = sym (append_assoc pre row (numbers_of es ++ rest)) in
    ap (λ (x : Entry). x ∷ entries_from (pre ++ (numbers_of (e ∷ es) ++ rest)) (i + 1) (length es)) (entry_there pre e (numbers_of es ++ rest) i h)
    ∙ ap (λ (x : List ℕ). e ∷ entries_from x (i + 1) (length es)) same
    ∙ ap (λ (x : List Entry). e ∷ x) (entries_there es (pre ++ row) rest (i + 1) m)

-- The entries of the list of some entries are those.
pub entries_of_list : (es : List Entry) → entries_of (list_of es) ≡ es
entries_of_list es = entries_there es [] _ 0 refl

-- Behind them all is 0.
pub zeros_behind : (es : List Entry) (i : ℕ) → length es * 5 ≤ i → get_or (list_of es).rows i 0 ≡ 0
zeros_behind es i h =
    let xs = numbers_of es in
    let n = 80 - length xs in
    let l = numbers_length es in
    let k : i ≡ length xs + (i - length xs) = omega arith in
    let zeros : (j : ℕ) → get_or (replicate {A = ℕ} n 0) j 0 ≡ 0 =
    λ j. by_test (ltb j n)
    (λ t. get_or-replicate n j 0 0 (ltb-true j n t))
    (λ t. get_or-eq_default (replicate n 0) 0 (let e = length-replicate {A = ℕ} n 0 in omega (arith, ltb-false j n t))) in
    ap (λ (x : ℕ). get_or (list_of es).rows x 0) k ∙ get_or-append-add xs (replicate n 0) (i - length xs) 0 ∙ zeros (i - length xs)

five : (v : List ℕ) (j : ℕ) → j + 5 ≤ length v
    → drop j v ≡ get_or v j 0 ∷ get_or v (j + 1) 0 ∷ get_or v (j + 2) 0 ∷ get_or v (j + 3) 0 ∷ get_or v (j + 4) 0 ∷ drop (j + 5) v
five v j h =
    simp unary_clauses
    (drop-cons v j 0 (omega arith)
    ∙ ap (λ (x : List ℕ). get_or v j 0 ∷ x) (drop-cons v (suc j) 0 (omega arith)
    ∙ ap (λ (x : List ℕ). get_or v (suc j) 0 ∷ x) (drop-cons v (suc (suc j)) 0 (omega arith)
    ∙ ap (λ (x : List ℕ). get_or v (suc (suc j)) 0 ∷ x) (drop-cons v (suc (suc (suc j))) 0 (omega arith)
    ∙ ap (λ (x : List ℕ). get_or v (suc (suc (suc j))) 0 ∷ x) (drop-cons v (suc (suc (suc (suc j)))) 0 (omega arith))))))

numbers_there : (v : List ℕ) (n i : ℕ) → i * 5 + n * 5 ≤ length v → numbers_of (entries_from v i n) ≡ take (n * 5) (drop (i * 5) v)
numbers_there v zero i h = refl
numbers_there v (suc n) i h =
    let k : suc n * 5 ≡ suc (suc (suc (suc (suc (n * 5))))) = omega arith in
    let m : (i + 1) * 5 ≡ i * 5 + 5 = omega arith in
    let rest = ap (λ (x : ℕ). take (n * 5) (drop x v)) m in
    rw (k, five v (i * 5) (omega arith), numbers_there v n (i + 1) (omega arith), rest)

-- The rows of a list that a file could give are its entries' numbers.
pub long_enough : (l : PlanList) → spoilt_list l ≡ false → l.count * 5 ≤ length l.rows
long_enough l h =
    let s = sound Entries l.count l.rows h in
    let v = take (l.count * 5) l.rows in
    omega (arith, s.in_range, bad_within Entries v (length v), length-take (l.count * 5) l.rows)

pub rows_numbers : (l : PlanList) → spoilt_list l ≡ false → rows_of l ≡ numbers_of (entries_of l)
rows_numbers l h = sym (numbers_there l.rows l.count 0 (omega (arith, long_enough l h)))

-- End to end stand the entries of both.
pub entries_end_to_end : (first second : PlanList) → spoilt_list first ≡ false → spoilt_list second ≡ false
    → entries_from (end_to_end first second) 0 (both_counts first second) ≡ entries_of first ++ entries_of second
entries_end_to_end first second h g =
    let es = entries_of first ++ entries_of second in
    let rows : end_to_end first second ≡ numbers_of es ++ [] =
    ap (λ (x : List ℕ). x ++ rows_of second) (rows_numbers first h)
    ∙ ap (λ (x : List ℕ). numbers_of (entries_of first) ++ x) (rows_numbers second g)
    ∙ sym (numbers_append (entries_of first) (entries_of second))
    ∙ sym (append-nil (numbers_of es)) in
    let n : both_counts first second ≡ length es =
    sym (length-append (entries_of first) (entries_of second) ∙ rw (entries_length first.rows 0 first.count, entries_length second.rows 0 second.count)) in
    ap (λ (x : List ℕ). entries_from x 0 (both_counts first second)) rows
    ∙ ap (λ (x : ℕ). entries_from (numbers_of es ++ []) 0 x) n
    ∙ entries_there es [] [] 0 refl
