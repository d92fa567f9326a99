-- The law.
use Rattle.std.proofs.Common.{◌≡◌, ℕ, ◌+◌, ◌*◌, ◌<◌, ◌≤◌, ◌⊎◌, true, List, [], ◌∷◌, ◌++◌, length, inl, inr, refl, arith, ap, sym, ◌∙◌, append_assoc, append-nil}
use Rattle.std.proofs.lemmas.Bool.Decides.{nat_tests}
use Rattle.tape_image.specs.Memory.{byte_of, top_of}
use Rattle.odt_machine.specs.Machine.{is_word}
use Rattle.processor.specs.Machine.{Machine, State, Runs, Halted}
use Rattle.exchange_core.specs.declared.stretch.Stretch.{Stretch}
use Rattle.stub.specs.Words.{code, code_bytes, table}
use Rattle.stub.specs.Filling.{Filling, begun}
use Rattle.stub.specs.Place.{stub_end}
use Rattle.stub.specs.Law.{IsStarted, Does, StubsDoAsTold, waiting}
use Rattle.processor.specs.Events.{ran}
use Rattle.stub.proofs.Cuts.{places_fit}
use Rattle.stub.proofs.Points.{Point, Start, offset, Masked, Base, Lasts}
use Rattle.stub.proofs.Events.{lasts_ran}
use Rattle.stub.proofs.Outside.{outside_stays}

-- the code ends below the I/O page, since the table behind it is in memory
pub roomy : (place : ℕ) (stretches : List Stretch) (m : Machine) → IsStarted place stretches m → place + 126 < 57344
roomy place stretches m is = low m.memory (place + 126) (is.stands.words 63 (there stretches)).0 is.size
  where
    there : (stretches : List Stretch) → 63 < length (code place ++ table stretches)
    there [] = omega arith
    there (stretch ∷ stretches) = omega arith

    low : (memory : List ℕ) (a : ℕ) → is_word memory a ≡ true → length memory ≤ 28672 → a < 57344
    low memory a h few = grind (arith, nat_tests)

pub from_place : (place pc : ℕ) → pc ≡ place → pc ≡ place + 0
from_place place pc is = omega arith

pub at_table : (a : ℕ) → a ≡ a + 4 * 0 + 0
at_table a = omega arith

abbrev pub opening : (place : ℕ) (stretches : List Stretch) (m : Machine) → IsStarted place stretches m → Lasts place stretches m.memory (waiting m.console) m
opening place stretches m is = inl record {
  base = record {
    took = [];
    late = [];
    few = omega arith;
    more = [];
    stub = begun m.memory stretches;
    stub_is = refl;
    fetched = is.fetched;
    sent = append-nil (waiting m.console) ∙ sym (append-nil (m.console.gone ++ waiting m.console) ∙ ap (λ gone. gone ++ waiting m.console) is.gone);
    memory = refl;
    words = is.stands.words;
    size = refl;
    wide = is.wide;
    fit = places_fit place (stub_end place stretches) (top_of m.memory) stretches is.stands.fit;
    high = tt;
  };
  running = is.running;
  point = Start;
  pc = from_place place m.pc is.pc;
  masked = tt;
  facts = ((refl, refl), refl, record { later = stretches; left = refl; row = record { front = []; all = refl; at = at_table (place + code_bytes) } });
}

-- what lasts is what was to be shown
module _ (place : ℕ) (stretches : List Stretch) (m now : Machine) (is : IsStarted place stretches m) where
  does : (base : Base place stretches m.memory (waiting m.console) now) → (now.state ≡ Runs) ⊎ (now.state ≡ Halted) → (now.pc ≡ place) ⊎ (now.masked ≡ true) →
      (now.state ≡ Halted → (base.late ≡ []) × (base.more ≡ []) × (base.stub.left ≡ [])) → Does place stretches m now
  does base described masked halted = record {
    took = base.took;
    late = base.late;
    more = waiting now.console ++ base.more;
    described = described;
    masked = masked;
    fetched = base.fetched;
    late_one = base.few;
    memory = base.memory ∙ ap (λ (f : Filling). f.memory) base.stub_is;
    sent = ap (λ (f : Filling). waiting m.console ++ f.answers) (sym base.stub_is) ∙ (base.sent ∙ append_assoc now.console.gone (waiting now.console) base.more);
    halted = λ e. (
      (halted e).0,
      ap (λ (f : Filling). f.left) (sym base.stub_is) ∙ (halted e).2,
      ap (λ x. waiting now.console ++ x) (halted e).1 ∙ append-nil (waiting now.console),
    );
    size = base.size;
    outside = λ b outside.
        ap (λ x. byte_of x b) (base.memory ∙ ap (λ (f : Filling). f.memory) base.stub_is)
        ∙ outside_stays place (stub_end place stretches) (top_of m.memory) m.memory stretches base.took b is.wide is.stands.fit outside;
  }

  masked_at : (p : Point) → now.pc ≡ place + offset p → Masked p now.masked → (now.pc ≡ place) ⊎ (now.masked ≡ true)
  masked_at Start pc masked = inl (same now.pc pc)
    where
      same : (pc : ℕ) → pc ≡ place + 0 → pc ≡ place
      same pc is = omega arith
  masked_at _ pc masked = inr masked

  does_so : Lasts place stretches m.memory (waiting m.console) now → Does place stretches m now
  does_so (inl k) = does k.base (inl k.running) (masked_at k.point k.pc k.masked) (λ e. absurd (apart now.state k.running e))
    where
      apart : (s : State) → s ≡ Runs → s ≡ Halted → ⊥
      apart s is isnt = cc
  does_so (inr k) = does k.base (inr k.halted) (inr k.masked) (λ e. (k.late, k.more, k.left))

pub do_as_told : StubsDoAsTold
do_as_told place stretches m events is =
    does_so place stretches m (ran m events) is (lasts_ran place stretches m.memory (waiting m.console) (roomy place stretches m is) is.size is.stands.fit m events (opening place stretches m is))
