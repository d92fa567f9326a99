-- Where a stub lies.
use Rattle.std.proofs.Common.{◌≡◌, ℕ, ◌+◌, ◌*◌, ◌≤◌, List, [], ◌∷◌, length, refl, arith, length-append}
use Rattle.tape_image.specs.Plan.{PlanValue}
use Rattle.tape_image.specs.Word.{WordValue}
use Rattle.exchange_core.specs.declared.stretch.Stretch.{Stretch}
use Rattle.exchange_core.proofs.Chunks.{chunks_few}
use Rattle.exchange_core.specs.Window.{IsWindow}
use Rattle.stub.specs.Words.{code, stub_words, table}
use Rattle.stub_engine.specs.declared.planning.StubLayout.{StubLayout}
use Rattle.stub_engine.specs.Planning.{IsLayout}

table_size : (stretches : List Stretch) → length (table stretches) ≡ 2 * length stretches + 1
table_size [] = refl
table_size (stretch ∷ stretches) = let rest = table_size stretches in omega arith

pub stub_length : (place : ℕ) (stretches : List Stretch) → length (stub_words place stretches) ≡ 64 + 2 * length stretches
stub_length place stretches = let rest = table_size stretches in omega (arith, length-append (code place) (table stretches))

-- a window has room for a shorter stub
pub shorter : (words : List WordValue) (from size less i : ℕ) → less ≤ size → IsWindow words from size i → IsWindow words from less i
shorter words from size less i le w = record {
  behind = w.behind;
  within = (let all = w.within in omega (arith, le, all));
  together = record {
    whole = λ k a b. w.together.whole k a (omega (arith, le, b));
    next = λ k a b. w.together.next k a (omega (arith, le, b));
  };
}

-- ---- there are no more stretches than chunks

pub few_stretches : (tape : PlanValue) (from count : ℕ) (layout : StubLayout) → IsLayout tape from count layout → length layout.stretches.items ≤ 65536
few_stretches tape from count layout is_one =
    let less = is_one.stretches_are.few in
    let few = chunks_few tape from layout.chunks.items is_one.chunks_are.are in omega (arith, less, few)
