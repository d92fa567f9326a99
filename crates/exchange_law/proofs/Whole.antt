-- A whole exchange of which nothing is lost.
use Rattle.std.proofs.Common.{◌≡◌, ℕ, ◌+◌, ◌-◌, ◌*◌, ◌<◌, ◌≤◌, None, List, [], ◌∷◌, ◌++◌, Bool, true, length, map, refl, arith, ap, sym, subst, ◌∙◌, append_assoc}
use Rattle.tape_image.specs.Image.{Image}
use Rattle.tape_image.specs.Memory.{top_of}
use Rattle.host_core.specs.declared.heard.Heard.TheVariants.{Got, Quiet}
use Rattle.exchange_core.specs.declared.chunk.Chunk.{Chunk}
use Rattle.exchange_core.specs.declared.duplex.Duplex.{Duplex}
use Rattle.exchange_core.specs.declared.phase.Phase.TheVariants.{Answer, Ended}
use Rattle.exchange_core.specs.declared.phase.End.TheVariants.{Complete}
use Rattle.std.proofs.lemmas.Bool.Decides.{nat_tests}
use Rattle.std.specs.Prelude.{nat_lt, if◌then◌else◌}
use Rattle.exchange_core.specs.Chunk.{chunk_keys, chunk_nr, keys_from, sent_at}
use Rattle.exchange_core.specs.Exchange.{ExchangeStep, begun, led, listens}
use Rattle.exchange_core.proofs.Chunks.{chunks_apart}
use Rattle.exchange_core.proofs.Keys.{keys_split, sent_within}
use Rattle.exchange_law.proofs.Texts.{some_is, told_small}
use Rattle.stub.specs.Filling.{Filling}
use Rattle.exchange_law.specs.Clean.{CleanExchangesComplete, IsBroughtIn, all_heard, all_keys, stub_behind}
use Rattle.exchange_law.proofs.Filled.{AreBytes, AreInside, all_in, all_length, all_other, all_taken, all_written, told_texts}
use Rattle.exchange_law.proofs.CleanHearing.{Completes, all_heard_on, completes_first}

-- from silence on
from_silence : (image : Image) (chunks : List Chunk) (from : ℕ) (duplex : Duplex) → 0 < length chunks → ((k : ℕ) → k < length chunks → 1 ≤ (chunk_nr chunks k).size) →
    Completes image chunks (begun from duplex) (Quiet ∷ map Got (told_texts image chunks)) (all_keys image chunks)
from_silence image [] from duplex some each = absurd (omega (arith, some))
from_silence image (c ∷ more) from duplex some each =
    let s : ExchangeStep = record { next = record (begun from duplex) { sent = 0 + sent_at duplex c 0; phase = Answer 0 }; keys = chunk_keys image c (sent_at duplex c 0) } in
    subst (Completes image (c ∷ more) (begun from duplex) (Quiet ∷ map Got (told_texts image (c ∷ more))))
    (sym (append_assoc (chunk_keys image c (sent_at duplex c 0)) (keys_from image c (sent_at duplex c 0) (2 * c.size - sent_at duplex c 0)) (all_keys image more))
    ∙ ap (λ list. list ++ all_keys image more) (keys_split image c (2 * c.size - sent_at duplex c 0) (sent_at duplex c 0) ∙ ap (chunk_keys image c) (whole c)))
    (completes_first image (c ∷ more) (begun from duplex) Quiet (map Got (told_texts image (c ∷ more))) s (keys_from image c (sent_at duplex c 0) (2 * c.size - sent_at duplex c 0) ++ all_keys image more)
    (ap (λ (t : Bool). if t then record { next = record (begun from duplex) { sent = 0 + sent_at duplex c 0; phase = Answer 0 }; keys = chunk_keys image c (sent_at duplex c 0) } else listens (begun from duplex) (Ended Complete)) (less (length (c ∷ more)) some))
    (all_heard_on image (c ∷ more) more c (begun from duplex) each refl))
  where
    less : (n : ℕ) → 0 < n → nat_lt 0 n ≡ true
    less n h = grind (arith, nat_tests)

    whole : (c : Chunk) → sent_at duplex c 0 + (2 * c.size - sent_at duplex c 0) ≡ 2 * c.size
    whole c = let within = sent_within duplex c 0 in omega (arith, within)

pub clean_exchanges_complete : CleanExchangesComplete
clean_exchanges_complete plan from duplex chunks memory are wide room =
    let small : AreBytes plan.image = told_small plan are.sound in
    let inside : AreInside chunks (top_of memory) = λ k below. ((are.each k below).some, room k below) in
    let f : Filling = record { memory = all_written plan.image chunks memory; left = []; high = None; answers = told_texts plan.image chunks } in
    let is : stub_behind plan.image chunks memory ≡ f = all_taken plan.image chunks memory [] small wide inside in
    let c : Completes plan.image chunks (begun from duplex) (all_heard f) (all_keys plan.image chunks) = from_silence plan.image chunks from duplex are.some (λ k below. (are.each k below).some) in
    subst (λ g. IsBroughtIn plan from duplex chunks memory g (led plan.image chunks (begun from duplex) (all_heard g))) (sym is) (record {
      said = c.says;
      complete = c.phase;
      all = c.done;
      halted = refl;
      holds = record {
        size = all_length plan.image chunks memory;
        stand = λ k below b inside_k. some_is _ _ ((are.each k below).bytes b inside_k) (sym (all_in plan.image chunks memory k b small wide inside below inside_k (chunks_apart plan from chunks are)));
        others = λ b none. all_other plan.image chunks memory b small wide none;
      };
    })
