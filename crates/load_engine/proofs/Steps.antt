-- One step of the host of a load: what it gives to keep, with what it sends.
use Rattle.std.proofs.Common.{◌≡◌, ℕ, ◌+◌, ◌-◌, ◌<◌, ◌≤◌, ◌⊎◌, Bool, true, false, nat_lt, List, [], ◌∷◌, ◌++◌, inl, inr, length, take, drop, map, Option, Some, None, IsSome, refl, arith, ap, sym, subst, ◌∙◌, append-nil}
use Rattle.std.specs.Prelude.{option_to_list}
use Rattle.host_core.specs.Word.{WordValue}
use Rattle.host_core.specs.declared.heard.Heard.{Heard}
use Rattle.host_core.specs.declared.phase.Phase.TheVariants.{Settle, Sync, Address, Ended}
use Rattle.host_core.specs.declared.phase.Visit.TheVariants.{Look}
use Rattle.host_core.specs.declared.phase.End.TheVariants.{GaveUp}
use Rattle.host_core.specs.declared.turn.Turn.{Turn}
use Rattle.host_core.specs.declared.turn.Turn.TheVariants.{Listen, Key, Verified, Revisit, Next, Mark, Stop, Stray, Timeout}
use Rattle.host_core.specs.Console.{resynchronise_of, carriage_return, go}
use Rattle.octal.specs.Octal.{digit_of}
use Rattle.host_core.specs.Core.{Core, word_under_way}
use Rattle.host_core.specs.Host.{IsHost}
use Rattle.host_core.specs.Steps.{IsMarking}
use Rattle.host_core.specs.PhaseTable.{Move, move, listens, sends, taken, turn_of, after_words}
use Rattle.host_core.proofs.Frame.{on_move}
use Rattle.host_core.proofs.Marks.{go_marks}
use Rattle.host_devices.specs.declared.item.Kept.{Kept}
use Rattle.host_devices.specs.declared.item.Kept.TheVariants.{Word, Go}
use Rattle.host_devices.specs.Dialogue.{mark_between, news_between}
use Rattle.load_engine.proofs.News.{news_none, news_mark, no_mark}

-- what a step of the core gives the devices to do
pub record IsStep (old new : Core) (heard : Heard) (key : Option ℕ) (news : Option Kept) : Type 0 where
  pub next : new ≡ (move old heard).next
  pub key_is : key ≡ (move old heard).key
  pub news_is : option_to_list news ≡ news_between old new
  pub with_start : key ≡ Some go → news ≡ Some Go

-- nothing is to be kept; or one word may be, and CR is sent; or the mark is, and `G` is sent
pub record IsStill (core : Core) (m : Move) : Type 0 where
  pub same : m.next.verified ≡ core.verified
  pub same_mark : m.next.going ≡ core.going

pub record IsOneMore (core : Core) (m : Move) : Type 0 where
  pub one : m.next.verified ≡ core.verified + 1
  pub same_mark : m.next.going ≡ core.going
  pub sends : m.key ≡ Some carriage_return

pub record IsMark (core : Core) (m : Move) : Type 0 where
  pub same : m.next.verified ≡ core.verified
  pub sends : m.key ≡ Some go

abbrev Kind : Core → Move → Type 0
Kind core m = IsStill core m ⊎ (IsOneMore core m ⊎ IsMark core m)

after_words_kind : (core : Core) (start : Option ℕ) → Kind core (after_words core start)
after_words_kind core (Some start) = inl record { same = refl; same_mark = refl }
after_words_kind core None = inl record { same = refl; same_mark = refl }

taken_kind : (core : Core) (turn : Turn) → Kind core (taken core turn)
taken_kind core (Listen phase) = inl record { same = refl; same_mark = refl }
taken_kind core (Key key phase) = inl record { same = refl; same_mark = refl }
taken_kind core Verified = inr (inl record { one = refl; same_mark = refl; sends = refl })
taken_kind core (Revisit visit) = inl record { same = refl; same_mark = refl }
taken_kind core Next =
    on_move (Kind core) (nat_lt core.verified (length core.plan.words)) (sends core (digit_of (word_under_way core).address 1) (Address Look 1)) (after_words core core.plan.start)
    (λ _. inl record { same = refl; same_mark = refl }) (λ _. after_words_kind core core.plan.start)
taken_kind core Mark = inr (inr record { same = refl; sends = refl })
taken_kind core (Stop end) = inl record { same = refl; same_mark = refl }
taken_kind core Stray =
    on_move (Kind core) (nat_lt core.spent core.patience) (listens (record core { spent = core.spent + 1 }) Settle) (listens core (Ended GaveUp))
    (λ _. inl record { same = refl; same_mark = refl }) (λ _. inl record { same = refl; same_mark = refl })
taken_kind core Timeout =
    on_move (Kind core) (nat_lt core.spent core.patience) (sends (record core { spent = core.spent + 1 }) (resynchronise_of core.careful) (Sync 0)) (listens core (Ended GaveUp))
    (λ _. inl record { same = refl; same_mark = refl }) (λ _. inl record { same = refl; same_mark = refl })

-- the first word of a list, as what is to be kept
abbrev first_word : List WordValue → Option Kept
first_word [] = None
first_word (word ∷ words) = Some (Word word)

first_is : (words : List WordValue) → option_to_list (first_word words) ≡ map Word (take 1 words)
first_is [] = refl
first_is (word ∷ words) = refl

news_one : (old new : Core) → new.verified ≡ old.verified + 1 → new.going ≡ old.going → option_to_list (first_word (drop old.verified old.plan.words)) ≡ news_between old new
news_one old new one same =
    let n : new.verified - old.verified ≡ 1 = omega (arith, one) in
    first_is (drop old.verified old.plan.words)
    ∙ (ap (λ k. map Word (take k (drop old.verified old.plan.words))) (sym n)
    ∙ (sym (append-nil (map Word (take (new.verified - old.verified) (drop old.verified old.plan.words))))
    ∙ ap (λ mark. map Word (take (new.verified - old.verified) (drop old.verified old.plan.words)) ++ mark) (sym (no_mark old.going new.going same))))

some_key : (o : Option ℕ) (key : ℕ) → o ≡ Some key → IsSome o
some_key None key e = absurd (cc)
some_key (Some k) key e = refl

not_still : (a b : Bool) → a ≡ false → b ≡ true → b ≡ a → ⊥
not_still a b was now same = cc

not_return : (o : Option ℕ) → o ≡ Some go → o ≡ Some carriage_return → ⊥
not_return None e f = cc
not_return (Some k) e f = omega (arith, some_is k go e, some_is k carriage_return f) where
  some_is : (a b : ℕ) → Some a ≡ Some b → a ≡ b
  some_is a b e = cc

-- what a step gives to keep, and that it goes with what is sent
pub record HasStep (core : Core) (heard : Heard) : Type 0 where
  pub news : Option Kept
  pub step : IsStep core (move core heard).next heard (move core heard).key news

of_kind : (core : Core) (heard : Heard) → IsHost core → Kind core (move core heard) → HasStep core heard
of_kind core heard host (inl still) = record {
  news = None;
  step = record {
    next = refl;
    key_is = refl;
    news_is = sym (news_none core (move core heard).next still.same still.same_mark);
    with_start = λ sends. let m : IsMarking core (move core heard).next (move core heard).key = go_marks core heard host sends in absurd (not_still core.going (move core heard).next.going m.was m.now still.same_mark);
  };
}
of_kind core heard host (inr (inl one)) = record {
  news = first_word (drop core.verified core.plan.words);
  step = record {
    next = refl;
    key_is = refl;
    news_is = news_one core (move core heard).next one.one one.same_mark;
    with_start = λ sends. absurd (not_return (move core heard).key sends one.sends);
  };
}
of_kind core heard host (inr (inr mark)) =
    let m : IsMarking core (move core heard).next (move core heard).key = go_marks core heard host mark.sends in record {
      news = Some Go;
      step = record {
        next = refl;
        key_is = refl;
        news_is = sym (news_mark core (move core heard).next mark.same m.was m.now);
        with_start = λ sends. refl;
      };
    }

pub has_step : (core : Core) (heard : Heard) → IsHost core → HasStep core heard
has_step core heard host = of_kind core heard host (taken_kind core (turn_of core heard))

-- what is given goes with a key
still_none : (items : List Kept) (front : List Kept) (item : Kept) (rest : List Kept) → items ≡ [] → items ≡ front ++ item ∷ rest → ⊥
still_none items [] item rest none are = omega (arith, ap length (sym none ∙ are))
still_none items (a ∷ front) item rest none are = omega (arith, ap length (sym none ∙ are))

key_of_kind : (core : Core) (heard : Heard) (front : List Kept) (item : Kept) (rest : List Kept) → news_between core (move core heard).next ≡ front ++ item ∷ rest → Kind core (move core heard) → IsSome (move core heard).key
key_of_kind core heard front item rest are (inl still) = absurd (still_none (news_between core (move core heard).next) front item rest (news_none core (move core heard).next still.same still.same_mark) are)
key_of_kind core heard front item rest are (inr (inl one)) = some_key (move core heard).key carriage_return one.sends
key_of_kind core heard front item rest are (inr (inr mark)) = some_key (move core heard).key go mark.sends

pub with_key : (core : Core) (heard : Heard) (front : List Kept) (item : Kept) (rest : List Kept) → news_between core (move core heard).next ≡ front ++ item ∷ rest → IsSome (move core heard).key
with_key core heard front item rest are = key_of_kind core heard front item rest are (taken_kind core (turn_of core heard))
