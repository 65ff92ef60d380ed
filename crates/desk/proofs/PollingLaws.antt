-- Every enrolled cabinet is polled in time. Its rank falls at each accepted tick that does not poll it: of t polls each, those that another
-- in turn has left, and t for each enrolled cabinet whose turn comes before its own.
use Rattle.refusals.proofs.NoneLaws.{no_refusal, accepted_test, refused_test, some_none}
use Rattle.std.specs.Option.{is_none}
use Rattle.std.specs.Prelude.{Option, Some, None}
use Rattle.refusals.specs.declared.Refusal.{Refusal}
use Rattle.refusals.specs.declared.Refusal.TheVariants.{SpoiltState, BadNumber}
use Prim.Native.Nat.{ℕ, zero, suc, ◌+◌, ◌-◌, ◌*◌, ◌≤◌, ◌<◌}
use mathlib.Core.Path.{◌≡◌, sym, ◌∙◌, ap}
use mathlib.Core.Bool.{Bool, true, false, cond, ◌&&◌, true≢false}
use mathlib.Core.List.{List, [], ◌∷◌}
use native.Mathlib.Nat.{mul-suc, mul-le-mul_left}
use native.Mathlib.Omega.{arith}
use borrow.Author.Tests.{ltb-true, ltb-false, lt-ltb, le-ltb, eqb-false, eq-eqb, ne_eqb}
use lib.Dec.{ltb, eqb}
use Rattle.loops.proofs.Cases.{by_test, or_else}
use Rattle.runs.specs.Runs.{AtEach}
use Rattle.runs.proofs.RunLaws.{one_less}
use Rattle.desk.specs.declared.Desk.{Desk}
use Rattle.desk.specs.declared.DeskTicked.{DeskTicked}
use Rattle.desk.specs.Desk.{enrolled_at}
use Rattle.desk.specs.Tick.{tick_of}
use Rattle.desk.specs.InWords.{InRange, InTurn, PolledAnew, PassesOn, OnceMore, Turned}
use Rattle.desk.specs.Calls.{Call, enrols, removes, ticks, onward, is_accepted, is_accepted_tick, is_cabinet, polls, desk_after, accepted_ticks, polled_within, EnrolmentUnchanged, told_answer, AllAnswered}
use Rattle.desk.specs.Polling.{enrolled_below, how_many, PolledWithin, Any, longest_wait, PolledInTime}
use Rattle.desk.proofs.DeskLaws.{passes}
use Rattle.desk.proofs.CountLaws.{below_step, below_most, below_grows, below_none, same_there, same_below}
use Rattle.desk.proofs.NextLaws.{number_most}
use Rattle.desk.proofs.CallLaws.{not_refused, stays}
use Rattle.desk.proofs.Words.{turned}
use Rattle.desk.proofs.Sentences.{Sentence, nobody, first, passes_on, once_more, sentence}

-- How many enrolled come before cabinet i: those above the one in turn, going round, and below i.
unfoldable ahead : ℕ → Desk → ℕ
ahead i d =
    cond (eqb d.tries 0)
    (enrolled_below d i)
    (cond (ltb d.turn i)
    (enrolled_below d i - enrolled_below d (suc d.turn))
    (enrolled_below d i + (how_many d - enrolled_below d (suc d.turn))))

-- Whether another is in turn, and how many polls of t it has left.
unfoldable another : ℕ → Desk → Bool
another i d = ltb 0 d.tries && cond (eqb d.turn i) false (enrolled_at d d.turn)

unfoldable left : ℕ → ℕ → Desk → ℕ
left t i d = cond (another i d) (t - d.tries) 0

unfoldable rank : ℕ → ℕ → Desk → ℕ
rank t i d = left t i d + t * ahead i d

left_most : (t i : ℕ) (d : Desk) → left t i d ≤ t - d.tries
unfolding left
left_most t i d = by_test (another i d) (λ e. rw e (omega arith)) (λ e. rw e (omega arith))

module _ (i : ℕ) (d : Desk) (there : enrolled_at d i ≡ true) where
  small : i < 32
  small = number_most d i there

  own : enrolled_below d (suc i) ≡ enrolled_below d i + 1
  own = below_step d i there

  own_most : enrolled_below d i + 1 ≤ how_many d
  own_most = omega (arith, own, below_grows d (suc i) 32 (omega (arith, small)))

  -- Cabinet i is not among those before it, nor is another that is in turn.
  ahead_most : ahead i d + 1 ≤ how_many d
  unfolding ahead
  ahead_most =
      by_test (eqb d.tries 0)
      (λ e. rw e own_most)
      (λ e. by_test (ltb d.turn i)
      (λ f. rw (e, f) (omega (arith, own_most)))
      (λ f. rw (e, f) (omega (arith, own_most, own, below_grows d (suc i) (suc d.turn) (omega (arith, ltb-false d.turn i f))))))

  ahead_less : 0 < d.tries → (d.turn ≡ i → ⊥) → enrolled_at d d.turn ≡ true → ahead i d + 2 ≤ how_many d
  unfolding ahead
  ahead_less tried other in_turn =
      let e = ne_eqb d.tries 0 (λ z. omega (arith, z, tried)) in
      let step = below_step d d.turn in_turn in
      by_test (ltb d.turn i)
      (λ f. rw (e, f) (omega (arith, own_most, step, below_grows d (suc d.turn) i (omega (arith, ltb-true d.turn i f)))))
      (λ f. rw (e, f) (omega (
        arith,
        own_most,
        own,
        step,
        below_grows d (suc i) d.turn (omega (arith, ltb-false d.turn i f, other)),
        below_grows d (suc d.turn) 32 (omega (arith, number_most d d.turn in_turn)),
      )))

  module _ (t : ℕ) where
    rank_most : rank t i d ≤ t * (how_many d - 1)
    unfolding rank left another
    rank_most =
        by_test (ltb 0 d.tries)
        (λ e. by_test (eqb d.turn i)
        (λ f. rw (e, f) none_left)
        (λ f. by_test (enrolled_at d d.turn)
        (λ g. rw (e, f, g) (with_left (ahead_less (ltb-true 0 d.tries e) (eqb-false d.turn i f) g)))
        (λ g. rw (e, f, g) none_left)))
        (λ e. rw e none_left)
      where
        none_left : 0 + t * ahead i d ≤ t * (how_many d - 1)
        none_left = let less : t * ahead i d ≤ t * (how_many d - 1) = mul-le-mul_left t (omega (arith, ahead_most)) in omega (arith, less)

        with_left : ahead i d + 2 ≤ how_many d → t - d.tries + t * ahead i d ≤ t * (how_many d - 1)
        with_left less =
            let more : t * suc (ahead i d) ≤ t * (how_many d - 1) = mul-le-mul_left t (omega (arith, less)) in
            omega (arith, more, mul-suc t (ahead i d))

    -- The turn passes to another: one fewer is before cabinet i.
    module _ (r : DeskTicked) (same : r.desk.enrolled ≡ d.enrolled) (anew : PolledAnew d r) (other : r.desk.turn ≡ i → ⊥) where
      abbrev to : ℕ
      to = r.desk.turn

      to_small : to < 32
      to_small = number_most d to anew.enrolled

      step : enrolled_below r.desk (suc to) ≡ enrolled_below d to + 1
      step = same_below r.desk d (suc to) same ∙ below_step d to anew.enrolled

      tried_now : eqb r.desk.tries 0 ≡ false
      tried_now = ne_eqb r.desk.tries 0 (λ z. omega (arith, z, anew.tries))

      after_below : to < i → ahead i r.desk ≡ enrolled_below d i - (enrolled_below d to + 1)
      unfolding ahead
      after_below low = rw (tried_now, lt-ltb to i low, same_below r.desk d i same, step)

      after_above : i ≤ to → ahead i r.desk ≡ enrolled_below d i + (how_many d - (enrolled_below d to + 1))
      unfolding ahead
      after_above high = rw (tried_now, le-ltb to i high, same_below r.desk d i same, same_below r.desk d 32 same, step)

      -- One that is enrolled and below i counts there; each that is enrolled counts among all.
      counts_below : to < i → enrolled_below d to + 1 ≤ enrolled_below d i
      counts_below low = omega (arith, below_step d to anew.enrolled, below_grows d (suc to) i (omega (arith, low)))

      counts : enrolled_below d to + 1 ≤ how_many d
      counts = omega (arith, below_step d to anew.enrolled, below_grows d (suc to) 32 (omega (arith, to_small)))

      lowest : ((j : ℕ) → enrolled_at d j ≡ true → to ≤ j) → enrolled_below d to ≡ 0
      lowest least =
          below_none d 0 to (omega arith)
          (λ j _ h. by_test (enrolled_at d j) (λ e. absurd (omega (arith, h, least j e))) (λ e. e))

      first_nearer : d.tries ≡ 0 → ((j : ℕ) → enrolled_at d j ≡ true → to ≤ j) → suc (ahead i r.desk) ≡ ahead i d
      unfolding ahead
      first_nearer z least =
          let low : to < i = omega (arith, least i there, other) in
          let was : ahead i d ≡ enrolled_below d i = rw (eq-eqb d.tries 0 z) in
          omega (arith, was, after_below low, counts_below low, lowest least)

      passed_nearer : 0 < d.tries → PassesOn d r → suc (ahead i r.desk) ≡ ahead i d
      unfolding ahead
      passed_nearer tried p =
          let e = ne_eqb d.tries 0 (λ z. omega (arith, z, tried)) in
          by_test (ltb d.turn i)
          (λ f. let up = p.higher i (ltb-true d.turn i f) there in
          let low : to < i = omega (arith, up.1, other) in
          let was : ahead i d ≡ enrolled_below d i - enrolled_below d (suc d.turn) = rw (e, f) in
          omega (arith, was, after_below low, counts_below low, none_between up.0))
          (λ f. let was : ahead i d ≡ enrolled_below d i + (how_many d - enrolled_below d (suc d.turn)) = rw (e, f) in
          by_test (ltb d.turn to)
          (λ g. let high = ltb-true d.turn to g in
          omega (arith, was, after_above (omega (arith, high, ltb-false d.turn i f)), counts, none_between high))
          (λ g. let wrapped = ltb-false d.turn to g in
          let least = p.wraps wrapped in
          let low : to < i = omega (arith, least i there, other) in
          omega (arith, was, after_below low, counts_below low, lowest least, none_above wrapped)))
        where
          none_between : d.turn < to → enrolled_below d to ≡ enrolled_below d (suc d.turn)
          none_between high =
              below_none d (suc d.turn) to (omega (arith, high))
              (λ j a b. by_test (enrolled_at d j) (λ e. absurd (omega (arith, b, (p.higher j (omega (arith, a)) e).1))) (λ e. e))

          none_above : to ≤ d.turn → how_many d ≤ enrolled_below d (suc d.turn)
          none_above wrapped =
              by_test (ltb d.turn 32)
              (λ h. let is = below_none d (suc d.turn) 32 (omega (arith, ltb-true d.turn 32 h))
              (λ j a b. by_test (enrolled_at d j) (λ e. absurd (omega (arith, wrapped, (p.higher j (omega (arith, a)) e).0))) (λ e. e)) in
              omega (arith, is))
              (λ h. below_grows d 32 (suc d.turn) (omega (arith, ltb-false d.turn 32 h)))

      falls_with : 1 ≤ t → suc (ahead i r.desk) ≡ ahead i d → rank t i r.desk < rank t i d
      unfolding rank
      falls_with some nearer =
          let was : t * ahead i d ≡ t * ahead i r.desk + t = ap (λ n. t * n) (sym nearer) ∙ mul-suc t (ahead i r.desk) in
          omega (arith, was, left_most t i r.desk, anew.tries, some)

    -- Another is polled once more.
    module _ (r : DeskTicked) (same : r.desk.enrolled ≡ d.enrolled) (more : OnceMore d r) (in_turn : InTurn d d.turn) (other : d.turn ≡ i → ⊥) where
      same_ahead : ahead i r.desk ≡ ahead i d
      unfolding ahead
      same_ahead =
          rw (
            same_below r.desk d i same,
            same_below r.desk d 32 same,
            same_below r.desk d (suc r.desk.turn) same,
            ne_eqb r.desk.tries 0 (λ z. omega (arith, z, more.tries)),
            ne_eqb d.tries 0 (λ z. omega (arith, z, in_turn.polled)),
            more.turn,
          )

      was_left : left t i d ≡ t - d.tries
      unfolding left another
      was_left = rw (lt-ltb 0 d.tries in_turn.polled, ne_eqb d.turn i other, in_turn.enrolled)

      once_more_falls : d.tries < t → rank t i r.desk < rank t i d
      unfolding rank
      once_more_falls less = rw same_ahead (omega (arith, was_left, left_most t i r.desk, more.tries, less))

    -- An accepted tick that does not poll cabinet i. A silence wants t to be 3 at least.
    module _ (answer : ℕ) (r : DeskTicked) (in_range : InRange d) (answer_most : answer ≤ 1) (words : Turned d answer r) (some : 1 ≤ t) (suits : answer ≡ 0 → 3 ≤ t) (miss : is_cabinet i r.polled ≡ false) where
      not_to : PolledAnew d r → r.desk.turn ≡ i → ⊥
      not_to anew = let f : eqb r.desk.turn i ≡ false = rw anew.polled at miss in eqb-false r.desk.turn i f

      passing : 0 < d.tries → PassesOn d r → rank t i r.desk < rank t i d
      passing tried p =
          falls_with r words.enrolment p.anew (not_to p.anew) some (passed_nearer r words.enrolment p.anew (not_to p.anew) tried p)

      first_falls : d.tries ≡ 0 → rank t i r.desk < rank t i d
      first_falls z =
          let anew = (words.first i there z).0 in
          falls_with r words.enrolment anew (not_to anew) some
          (first_nearer r words.enrolment anew (not_to anew) z (λ j e. (words.first j e z).1))

      silent_falls : InTurn d d.turn → d.tries < 3 → answer ≡ 0 → rank t i r.desk < rank t i d
      silent_falls in_turn less z =
          let more = words.silent in_turn less z in
          let f : eqb d.turn i ≡ false = rw more.polled at miss in
          once_more_falls r words.enrolment more in_turn (eqb-false d.turn i f) (omega (arith, less, suits z))

      tick_falls : rank t i r.desk < rank t i d
      tick_falls = by (sentence d answer in_range answer_most)
        where
          by : Sentence d answer → rank t i r.desk < rank t i d
          by (nobody empty) = absurd (true≢false (sym there ∙ empty i))
          by (first k _ z) = first_falls z
          by (passes_on tried p) = passing tried (p r words)
          by (once_more in_turn less z) = silent_falls in_turn less z

-- A call that lets the rank fall: a tick that is told of a silence wants t to be 3 at least.
abbrev Suits : ℕ → Call → Type 0
Suits t (enrols k) = Unit {0}
Suits t (removes k) = Unit {0}
Suits t (ticks answer) = answer ≡ 0 → 3 ≤ t

falls : (t i : ℕ) (d : Desk) (call : Call) → 1 ≤ t → enrolled_at d i ≡ true → is_accepted_tick d call ≡ true → Suits t call → polls i d call ≡ false → rank t i (onward d call) < rank t i d
unfolding is_accepted_tick
falls t i d (enrols k) some there e suits miss = absurd (true≢false (sym e))
falls t i d (removes k) some there e suits miss = absurd (true≢false (sym e))
falls t i d (ticks answer) some there e suits miss =
    let fine = passes d 1 answer (not_refused d answer e) in
    tick_falls i d there t answer (tick_of d answer) fine.in_range fine.number_most (turned d answer e) some suits miss

accepted_tick_lem : (d : Desk) (call : Call) → is_accepted_tick d call ≡ true → is_accepted d call ≡ true
unfolding is_accepted_tick
accepted_tick_lem d (enrols k) e = absurd (true≢false (sym e))
accepted_tick_lem d (removes k) e = absurd (true≢false (sym e))
accepted_tick_lem d (ticks answer) e = e

no_less : {k y : ℕ} → suc k ≤ 0 + y → suc k ≤ y
no_less h = omega arith

abbrev AllSuit : ℕ → Desk → List Call → Type 0
AllSuit t = AtEach onward is_accepted (λ d call. Suits t call)

in_time : (t i k : ℕ) (d : Desk) (calls : List Call) → 1 ≤ t → enrolled_at d i ≡ true → EnrolmentUnchanged d calls → AllSuit t d calls
    → rank t i d < k → k ≤ accepted_ticks d calls → polled_within i k d calls ≡ true
in_time t i k d [] some there same suit r l = absurd (omega arith)
in_time t i zero d (call ∷ calls) some there same suit r l = absurd (omega arith)
in_time t i (suc k) d (call ∷ calls) some there same suit r l =
    by_test (is_accepted_tick d call)
    (λ e. by_test (polls i d call)
    (λ hit. rw (e, hit))
    (λ miss. let accepted = accepted_tick_lem d call e in
    let less = falls t i d call some there e (suit.0 accepted) miss in
    let still = same_there (onward d call) d i (same.0 accepted) ∙ there in
    rw e (or_else (polls i d call) (in_time t i k (onward d call) calls some still same.1 suit.1 (omega (arith, less)) (one_less (rw e at l))))))
    (λ e. let is = stays d call e same.0 in
    rw e (in_time t i (suc k) (onward d call) calls some (rw is there) same.1 suit.1 (rw is r) (no_less (rw e at l))))

-- With t = 3 every call suits, and with t = 1 all where each tick is told of an answer.
any_suits : (call : Call) → Suits 3 call
any_suits (enrols k) = tt
any_suits (removes k) = tt
any_suits (ticks answer) = λ _. omega arith

any_suit : (d : Desk) (calls : List Call) → AllSuit 3 d calls
any_suit d [] = tt
any_suit d (call ∷ calls) = ((λ _. any_suits call), any_suit (onward d call) calls)

answered_suits : (call : Call) → told_answer call → Suits 1 call
answered_suits (enrols k) told = tt
answered_suits (removes k) told = tt
answered_suits (ticks answer) told = λ z. omega (arith, z, told)

answered_suit : (d : Desk) (calls : List Call) → AllAnswered d calls → AllSuit 1 d calls
answered_suit d [] all = tt
answered_suit d (call ∷ calls) all = ((λ e. answered_suits call (all.0 e)), answered_suit (onward d call) calls all.1)

within : (t : ℕ) (most : Desk → ℕ) (Besides : Desk → List Call → Type 0) (start : Desk) → 1 ≤ t
    → ((d : Desk) (calls : List Call) → Besides d calls → AllSuit t d calls)
    → ((i : ℕ) (d : Desk) → enrolled_at d i ≡ true → rank t i d < most d)
    → PolledWithin most Besides start
unfolding PolledWithin
within t most Besides start some suit less before run i there same besides l =
    let d = desk_after start before in
    in_time t i (most d) d run some there same (suit d run besides) (less i d there) l

rank_below : (k i : ℕ) (d : Desk) → 94 ≤ k → enrolled_at d i ≡ true → rank 3 i d < k
rank_below k i d h there = omega (arith, h, rank_most i d there 3, below_most d 32)

pub polled_in_time : (start : Desk) → PolledInTime start
unfolding longest_wait
polled_in_time start = record {
  by_number = within 3 _ Any start (omega arith) (λ d calls _. any_suit d calls) (λ i d there. omega (arith, rank_most i d there 3));
  within_94 = within 3 _ Any start (omega arith) (λ d calls _. any_suit d calls) (λ i d. rank_below 94 i d (omega arith));
  within_96 = within 3 _ Any start (omega arith) (λ d calls _. any_suit d calls) (λ i d. rank_below 96 i d (omega arith));
  all_answering = within 1 _ AllAnswered start (omega arith) answered_suit (λ i d there. omega (arith, rank_most i d there 1, own_most i d there));
}
