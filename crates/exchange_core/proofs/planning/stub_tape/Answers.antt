use Rattle.std.proofs.Common.{◌≡◌, ◌<◌, ◌++◌, ◌∷◌, [], length, arith, ap, sym, subst, ◌∙◌}
use Rattle.std.specs.Prelude.{All}
use Rattle.std.proofs.lemmas.List.Elements.{All-from_get_or}
use Rattle.tape_values.specs.Block.{BlockValue, block_at}
use Rattle.tape_values.specs.Tape.{IsSound, TapeValue}
use Rattle.tape_image.specs.Word.{WordValue}
use Rattle.exchange_core.specs.StubPlan.{place_of}
use Rattle.exchange_core.proofs.Stubs.{sound_tape}
use Rattle.exchange_core.proofs.Together.{read_from}
use Rattle.exchange_core.proofs.planning.stub_tape.Goals as goal

pub of_sound-requires : goal.of_sound-requires
of_sound-requires c =
    let plan = c.args.plan.now in
    let window = c.requires.window in
    let below : c.args.window < length plan.words = (let within = window.within in omega (arith, within, c.requires.some)) in
    let place : c.address-place.result ≡ place_of plan c.args.window =
    c.address-place.ensures.value ∙ ap (λ (w : WordValue). w.address) (read_from c.words.result.now plan.words c.args.window c.index-words-window.result c.words.ensures.value below c.index-words-window.is) in
    let small : All (λ n. n < 65536) c.args.words.now = All-from_get_or (λ n. n < 65536) c.args.words.now 0 (λ i low. omega (arith, c.type_inv.words i)) in
    let code : ◌≡◌ {A = BlockValue} (block_at c.address-place.result c.in_ok-low_bytes_first.field-0.items) (block_at (place_of plan c.args.window) _) = λ i. block_at (place i) (c.in_ok-low_bytes_first.ensures i) in
    let items = c.in_ok-push.ensures.items ∙ ap (λ (block : BlockValue). c.in_ok-blocks.blocks.items ++ block ∷ []) code in
    let same : ◌≡◌ {A = TapeValue} (record { blocks = c.push.new.self.items; start = c.address-place.result }) _ = λ i. record { blocks = items i; start = place i } in
    subst IsSound (sym same) (sound_tape plan c.args.from c.args.window c.args.words.now c.in_ok-blocks.blocks.items c.words.ensures.sound window c.requires.some small c.in_ok-blocks.ensures)
