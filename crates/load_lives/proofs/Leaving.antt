-- Where a host is in order at a machine, a next one may begin there, whatever key is under way.
use Rattle.std.proofs.Common.{◌≡◌, ℕ, ◌<◌, ◌⊎◌, Bool, true, false, List, [], ◌∷◌, ◌++◌, length, Option, inl, inr, refl, ap, sym, subst, ◌∙◌}
use Rattle.std.specs.Prelude.{if◌then◌else◌}
use Rattle.odt_machine.specs.declared.mode.Mode.{Mode}
use Rattle.odt_machine.specs.declared.mode.Mode.TheVariants.{Prompt, Number, Opened, Typing, Running}
use Rattle.odt_machine.specs.KeyTable.{after_key, take_of}
use Rattle.odt_machine.specs.Laws.{is_running}
use Rattle.odt_machine.specs.Machine.{Machine, word_at}
use Rattle.tape_image.proofs.Halves.{Stands-unchanged}
use Rattle.host_core.specs.Core.{Core, start_of, word_nr}
use Rattle.line_world.specs.declared.event.Event.TheVariants.{Take}
use Rattle.line_world.specs.Invariant.{IsKept, RunsWith}
use Rattle.line_world.specs.Safe.{FirstStand}
use Rattle.line_world.specs.Scene.{Toll, over, toll_of}
use Rattle.line_world.specs.Site.{IsThere, ground, site_of}
use Rattle.line_world.proofs.Events.{kept_event}
use Rattle.line_world.proofs.Frame.{scene}
use Rattle.line_world.proofs.Keys.{Stores, lawful}
use Rattle.line_world.proofs.Taking.{key_takes}
use Rattle.exchange_law.specs.Station.{Each, Program, Stub, begins, fresh}
use Rattle.exchange_law.specs.Mirror.{wire_at}
use Rattle.exchange_law.specs.Line.{Link}
use Rattle.exchange_law.specs.Unsettled.{IsForStub, IsLastKey, IsUnsettled, MayFill, Untouched}
use Rattle.exchange_law.specs.Recovery.{IsInOrder}
use Rattle.exchange_law.proofs.Mirrors.{no_first, none_begun}
use Rattle.exchange_law.proofs.Starting.{RunsFrom, runs_from}

-- all words stand under the mark
pub all_stand : (m : Machine) (core : Core) (down up : List ℕ) (lost : Toll) → IsKept (scene m core down up lost) → core.going ≡ true → FirstStand core.plan.words (length core.plan.words) m.memory
all_stand m core down up lost k set = record {
  lies = λ i below. (there i below).0;
  stands = λ i below. Stands-unchanged (word_nr core.plan.words i) (word_at m.memory (word_nr core.plan.words i).address) (there i below).1;
}
  where
    every : (P : ℕ → Type 0) (going : Bool) (all verified : ℕ) → going ≡ true → ((i : ℕ) → i < (if going then all else verified) → P i) → (i : ℕ) → i < all → P i
    every P true all verified e h i below = h i below
    every P false all verified e h i below = absurd (cc)

    there : (i : ℕ) → i < length core.plan.words → IsThere (site_of (scene m core down up lost) i)
    there i below = every (λ j. IsThere (site_of (scene m core down up lost) j)) core.going (length core.plan.words) core.verified set k.words i below

-- ---- what may run

-- what a host's start brings to run may only change such bytes
abbrev pub StartsWithin : Program → (ℕ → Type 0) → Core → Type 0
StartsWithin program R core = (memory : List ℕ) → core.going ≡ true → FirstStand core.plan.words (length core.plan.words) memory → MayFill R (Running (start_of core)) (fresh (program memory (start_of core)))

fills : (program : Program) (R : ℕ → Type 0) (memory : List ℕ) (mode : Mode) (start : ℕ) (going : Bool) → RunsWith going mode → RunsFrom start mode →
    (going ≡ true → MayFill R (Running start) (fresh (program memory start))) → MayFill R mode (begins program false memory mode)
fills program R memory Prompt start going r from h = refl
fills program R memory (Number v n) start going r from h = refl
fills program R memory (Opened a) start going r from h = refl
fills program R memory (Typing a v n) start going r from h = refl
fills program R memory (Running p) start going r from h =
    let same : p ≡ start = from p refl in
    subst (λ n. MayFill R (Running n) (fresh (program memory n))) (sym same) (h r)

-- what a host's keys store are such bytes
abbrev pub StoresWithin : (ℕ → Type 0) → Core → Machine → Type 0
StoresWithin R core m = (lost : Toll) (down up memory : List ℕ) → IsKept (scene m core down up lost) → Stores (ground (scene m core down up lost)) memory → Untouched R m.memory memory

-- ---- the line behind a host

stopped_or : (P : Type 0) (running : Bool) → (running ≡ true → P) → (running ≡ false → P) → P
stopped_or P true h k = h refl
stopped_or P false h k = k refl

key_left : (program : Program) (R : ℕ → Type 0) (core : Core) (m : Machine) (stub : Option Stub) (c : ℕ) (rest up : List ℕ) (lost : Toll) (own : ℕ) → IsKept (scene m core (c ∷ rest) up lost) → stub ≡ begins program false m.memory m.mode → (is_running m.mode ≡ true → c ∷ rest ≡ []) →
    StartsWithin program R core → StoresWithin R core m → IsLastKey program R (record { machine = record { odt = m; stub = stub }; down = c ∷ rest; up = up; lost = own })
key_left program R core m stub c rest up lost own k is quiet starts stores = stopped_or _ (is_running m.mode)
    (λ runs. absurd (no_first (c ∷ rest) rest c (quiet runs) refl))
    (λ stopped.
    let one : rest ≡ [] = k.one_way.0 in
    let after = kept_event (scene m core (c ∷ rest) up lost) Take k in
    let takes = key_takes m core c rest up lost k in
    let from = runs_from (start_of core) (after_key m c).mode after.at_start in record {
      key = c;
      down = ap (λ list. c ∷ list) one;
      none = is ∙ none_begun program m.memory m.mode stopped;
      untouched = stores lost (c ∷ rest) up (take_of m c).memory k takes.memory;
      console = after.machine;
      stub = subst (λ test. MayFill R (after_key m c).mode (begins program test (after_key m c).memory (after_key m c).mode)) (sym stopped)
          (fills program R (after_key m c).memory (after_key m c).mode (start_of core) core.going takes.running from
          (λ set. starts (after_key m c).memory set (all_stand (after_key m c) core rest (up ++ (take_of m c).answer) lost after set)));
    })

left_by : (program : Program) (R : ℕ → Type 0) (core : Core) (m : Machine) (stub : Option Stub) (down up : List ℕ) (lost : Toll) (own : ℕ) → IsKept (scene m core down up lost) → stub ≡ begins program false m.memory m.mode → (is_running m.mode ≡ true → down ≡ []) →
    StartsWithin program R core → StoresWithin R core m → Each IsForStub down ⊎ IsLastKey program R (record { machine = record { odt = m; stub = stub }; down = down; up = up; lost = own })
left_by program R core m stub [] up lost own k is quiet starts stores = inl tt
left_by program R core m stub (c ∷ rest) up lost own k is quiet starts stores = inr (key_left program R core m stub c rest up lost own k is quiet starts stores)

pub in_order_unsettled : (program : Program) (R : ℕ → Type 0) (core : Core) (y : Link) → IsInOrder program core y → StartsWithin program R core → StoresWithin R core y.machine.odt → IsUnsettled program R y
in_order_unsettled program R core y o starts stores = record {
  console = o.kept.machine;
  stub = subst (MayFill R y.machine.odt.mode) (sym o.just.stub)
      (fills program R y.machine.odt.memory y.machine.odt.mode (start_of core) core.going o.kept.running o.from_start
      (λ set. starts y.machine.odt.memory set (all_stand y.machine.odt core y.down y.up (toll_of (over core (wire_at y o.lost))) o.kept set)));
  down = left_by program R core y.machine.odt y.machine.stub y.down y.up (toll_of (over core (wire_at y o.lost))) y.lost o.kept o.just.stub o.just.quiet starts stores;
}
