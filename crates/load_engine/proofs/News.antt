-- What there is to keep: of one step, and of two stretches one after the other.
use Rattle.std.proofs.Common.{◌≡◌, ℕ, ◌+◌, ◌-◌, ◌<◌, ◌≤◌, ◌⊎◌, Bool, true, false, nat_lt, not, List, [], ◌∷◌, ◌++◌, inl, inr, length, take, drop, map, get_or, Option, Some, None, refl, arith, ap, sym, ◌∙◌, append-nil, append_assoc}
use Rattle.std.specs.Prelude.{option_to_list}
use Rattle.std.proofs.lemmas.List.{drop_more, map-append}
use Rattle.std.proofs.Math.Seq.{take-add, drop-drop}
use Rattle.host_core.specs.Word.{WordValue}
use Rattle.host_core.specs.declared.heard.Heard.{Heard}
use Rattle.host_core.specs.declared.phase.Phase.TheVariants.{Settle, Sync, Address, Ended}
use Rattle.host_core.specs.declared.phase.Visit.TheVariants.{Look}
use Rattle.host_core.specs.declared.phase.End.TheVariants.{GaveUp}
use Rattle.host_core.specs.declared.turn.Turn.{Turn}
use Rattle.host_core.specs.declared.turn.Turn.TheVariants.{Listen, Key, Verified, Revisit, Next, Mark, Stop, Stray, Timeout}
use Rattle.host_core.specs.Console.{resynchronise_of, go}
use Rattle.octal.specs.Octal.{digit_of}
use Rattle.host_core.specs.Core.{Core, word_under_way}
use Rattle.host_core.specs.Host.{IsHost}
use Rattle.host_core.specs.Laws.{led}
use Rattle.host_core.specs.Steps.{IsVerifying, IsMarking}
use Rattle.host_core.specs.PhaseTable.{move, listens, sends, taken, turn_of, after_words}
use Rattle.host_core.proofs.Frame.{on_test, on_move, moved, silent}
use Rattle.host_core.proofs.Turns.{kept}
use Rattle.host_devices.specs.declared.item.Kept.{Kept}
use Rattle.host_devices.specs.declared.item.Kept.TheVariants.{Word, Go}
use Rattle.host_devices.specs.Dialogue.{mark_between, news_between}

-- ---- a core goes forward

-- the plan stays, no word is lost; with the mark set nothing changes any more
pub record IsForward (old new : Core) : Type 0 where
  pub plan : new.plan ≡ old.plan
  pub verified : old.verified ≤ new.verified
  pub marked : old.going ≡ true → (new.verified ≡ old.verified) × (new.going ≡ true)

after_words_grows : (core : Core) (start : Option ℕ) → core.verified ≤ (after_words core start).next.verified
after_words_grows core (Some start) = omega arith
after_words_grows core None = omega arith

taken_grows : (core : Core) (turn : Turn) → core.verified ≤ (taken core turn).next.verified
taken_grows core (Listen phase) = omega arith
taken_grows core (Key key phase) = omega arith
taken_grows core Verified = omega arith
taken_grows core (Revisit visit) = omega arith
taken_grows core Next =
    on_move (λ m. core.verified ≤ m.next.verified) (nat_lt core.verified (length core.plan.words)) (sends core (digit_of (word_under_way core).address 1) (Address Look 1)) (after_words core core.plan.start)
    (λ _. omega arith) (λ _. after_words_grows core core.plan.start)
taken_grows core Mark = omega arith
taken_grows core (Stop end) = omega arith
taken_grows core Stray =
    on_move (λ m. core.verified ≤ m.next.verified) (nat_lt core.spent core.patience) (listens (record core { spent = core.spent + 1 }) Settle) (listens core (Ended GaveUp)) (λ _. omega arith) (λ _. omega arith)
taken_grows core Timeout =
    on_move (λ m. core.verified ≤ m.next.verified) (nat_lt core.spent core.patience) (sends (record core { spent = core.spent + 1 }) (resynchronise_of core.careful) (Sync 0)) (listens core (Ended GaveUp)) (λ _. omega arith) (λ _. omega arith)

pub move_forward : (core : Core) (heard : Heard) → IsHost core → IsForward core (move core heard).next
move_forward core heard h = record {
  plan = (moved core heard).plan;
  verified = taken_grows core (turn_of core heard);
  marked = λ set. ((silent core heard h set).verified, (moved core heard).going set);
}

forward_joins : (a b c : Core) → IsForward a b → IsForward b c → IsForward a c
forward_joins a b c one two = record {
  plan = two.plan ∙ one.plan;
  verified = omega (arith, one.verified, two.verified);
  marked = λ set. let first = one.marked set in let second = two.marked first.1 in (second.0 ∙ first.0, second.1);
}

pub led_forward : (core : Core) (heard : List Heard) → IsHost core → IsForward core (led core heard)
led_forward core [] h = record { plan = refl; verified = omega arith; marked = λ set. (refl, set) }
led_forward core (heard ∷ more) h =
    forward_joins core (move core heard).next (led (move core heard).next more) (move_forward core heard h) (led_forward (move core heard).next more (kept core heard h))

-- ---- the news of one step

pub no_mark : (old new : Bool) → new ≡ old → mark_between old new ≡ []
no_mark true new e = ap (λ b. mark_between true b) e
no_mark false new e = ap (λ b. mark_between false b) e

no_words : (words : List WordValue) (old new : ℕ) → new ≡ old → take (new - old) (drop old words) ≡ []
no_words words old new e = let none : new - old ≡ 0 = omega arith in ap (λ n. take n (drop old words)) none

pub news_none : (old new : Core) → new.verified ≡ old.verified → new.going ≡ old.going → news_between old new ≡ []
news_none old new same same_mark =
    rw (no_words old.plan.words old.verified new.verified same, no_mark old.going new.going same_mark) refl

the_mark : (old new : Bool) → old ≡ false → new ≡ true → mark_between old new ≡ Go ∷ []
the_mark true new e f = absurd (cc)
the_mark false true e f = refl
the_mark false false e f = absurd (cc)

pub news_mark : (old new : Core) → new.verified ≡ old.verified → old.going ≡ false → new.going ≡ true → news_between old new ≡ Go ∷ []
news_mark old new same was is =
    rw (no_words old.plan.words old.verified new.verified same, the_mark old.going new.going was is) refl

one_word : (words : List WordValue) (old new : ℕ) (other : WordValue) → new ≡ old + 1 → old < length words → take (new - old) (drop old words) ≡ get_or words old other ∷ []
one_word words old new other e within =
    let one : new - old ≡ 1 = omega arith in
    ap (λ n. take n (drop old words)) one ∙ ap (λ rest. take 1 rest) (drop_more words old other within)

news_word : (old new : Core) (other : WordValue) → new.verified ≡ old.verified + 1 → old.verified < length old.plan.words → new.going ≡ old.going →
    news_between old new ≡ Word (get_or old.plan.words old.verified other) ∷ []
news_word old new other one within same =
    rw (one_word old.plan.words old.verified new.verified other one within, no_mark old.going new.going same) refl

-- the mark was set in a step
pub step_mark : (old new : Core) (key : Option ℕ) (was is : Bool) → (new.verified ≡ old.verified) ⊎ IsVerifying old new key → was ≡ old.going → is ≡ new.going →
    not was ≡ true → is ≡ true → news_between old new ≡ Go ∷ []
step_mark old new key true is words e f not_was set = absurd (cc)
step_mark old new key false is (inl same) e f not_was set = news_mark old new same (sym e) (sym f ∙ set)
step_mark old new key false is (inr more) e f not_was set = let one : new.going ≡ old.going = more.same_mark in absurd (cc)

-- one more word was verified in a step
pub step_word : (old new : Core) (key : Option ℕ) (other : WordValue) → (new.verified ≡ old.verified) ⊎ IsVerifying old new key → old.verified < new.verified →
    news_between old new ≡ Word (get_or old.plan.words old.verified other) ∷ []
step_word old new key other (inl same) more = absurd (omega arith)
step_word old new key other (inr one) more = news_word old new other one.one one.within one.same_mark

-- neither was in a step
pub step_none : (old new : Core) (key : Option ℕ) → (new.verified ≡ old.verified) ⊎ IsVerifying old new key → (new.going ≡ old.going) ⊎ IsMarking old new key →
    new.verified ≤ old.verified → (old.going ≡ false → new.going ≡ true → ⊥) → news_between old new ≡ []
step_none old new key (inl same) (inl same_mark) le no_mark = news_none old new same same_mark
step_none old new key (inl same) (inr mark) le no_mark = absurd (no_mark mark.was mark.now)
step_none old new key (inr one) mark le no_mark = absurd (omega (arith, one.one))

pub marked_already : (old new was : Bool) → was ≡ old → not was ≡ false → old ≡ false → new ≡ true → ⊥
marked_already old new true e marked not_old set = cc
marked_already old new false e marked not_old set = cc

pub not_marked : (old new is : Bool) → is ≡ new → is ≡ false → old ≡ false → new ≡ true → ⊥
not_marked old new is e unmarked not_old set = cc

-- the same word of the same list at the same place
pub word_at : (words same : List WordValue) (i j : ℕ) (word : WordValue) → word ≡ get_or words i word → words ≡ same → i ≡ j → word ≡ get_or same j word
word_at words same i j word is e f = is ∙ (ap (λ list. get_or list i word) e ∙ ap (λ k. get_or same k word) f)

-- ---- the news of two stretches

words_join : (words : List WordValue) (a b c : ℕ) → a ≤ b → b ≤ c → take (c - a) (drop a words) ≡ take (b - a) (drop a words) ++ take (c - b) (drop b words)
words_join words a b c one two =
    let sum : c - a ≡ (b - a) + (c - b) = omega arith in
    let from : a + (b - a) ≡ b = omega arith in
    let seam : drop (b - a) (drop a words) ≡ drop b words = drop-drop (b - a) a words ∙ ap (λ n. drop n words) from in
    ap (λ n. take n (drop a words)) sum ∙ (take-add (b - a) (c - b) (drop a words) ∙ ap (λ rest. take (b - a) (drop a words) ++ take (c - b) rest) seam)

-- with the mark set in the first stretch nothing is left to keep in the second
marked_join : (a b c : Core) → IsForward a b → IsForward b c → b.going ≡ true → news_between a c ≡ news_between a b ++ news_between b c
marked_join a b c one two set =
    let still : news_between b c ≡ [] = news_none b c (two.marked set).0 ((two.marked set).1 ∙ sym set) in
    let same : news_between a c ≡ news_between a b = ap (λ n. map Word (take (n - a.verified) (drop a.verified a.plan.words)) ++ mark_between a.going c.going) (two.marked set).0
    ∙ ap (λ g. map Word (take (b.verified - a.verified) (drop a.verified a.plan.words)) ++ mark_between a.going g) ((two.marked set).1 ∙ sym set) in
    same ∙ (sym (append-nil (news_between a b)) ∙ ap (λ rest. news_between a b ++ rest) (sym still))

never_marked : (a b : Bool) → b ≡ false → (a ≡ true → b ≡ true) → a ≡ false
never_marked true b not was = let set : b ≡ true = was refl in absurd (cc)
never_marked false b not was = refl

unmarked_join : (a b c : Core) → IsForward a b → IsForward b c → b.going ≡ false → news_between a c ≡ news_between a b ++ news_between b c
unmarked_join a b c one two not =
    let first : a.going ≡ false = never_marked a.going b.going not (λ set. (one.marked set).1) in
    let none : mark_between a.going b.going ≡ [] = no_mark a.going b.going (not ∙ sym first) in
    let words : List Kept = map Word (take (b.verified - a.verified) (drop a.verified a.plan.words)) in
    let more : List Kept = map Word (take (c.verified - b.verified) (drop b.verified a.plan.words)) in
    let all : map Word (take (c.verified - a.verified) (drop a.verified a.plan.words)) ≡ words ++ more =
    ap (map Word) (words_join a.plan.words a.verified b.verified c.verified one.verified two.verified)
    ∙ map-append Word (take (b.verified - a.verified) (drop a.verified a.plan.words)) (take (c.verified - b.verified) (drop b.verified a.plan.words)) in
    let left : news_between a b ≡ words = ap (λ mark. words ++ mark) none ∙ append-nil words in
    let right : more ++ mark_between a.going c.going ≡ news_between b c =
    ap (λ plan. map Word (take (c.verified - b.verified) (drop b.verified plan.words)) ++ mark_between a.going c.going) (sym one.plan)
    ∙ ap (λ g. map Word (take (c.verified - b.verified) (drop b.verified b.plan.words)) ++ mark_between g c.going) (first ∙ sym not) in
    ap (λ front. front ++ mark_between a.going c.going) all
    ∙ (append_assoc words more (mark_between a.going c.going)
    ∙ (ap (λ rest. words ++ rest) right ∙ ap (λ front. front ++ news_between b c) (sym left)))

pub news_join : (a b c : Core) → IsForward a b → IsForward b c → news_between a c ≡ news_between a b ++ news_between b c
news_join a b c one two = on_test (λ g. b.going ≡ g → news_between a c ≡ news_between a b ++ news_between b c) b.going (λ set _. marked_join a b c one two set) (λ not _. unmarked_join a b c one two not) refl
