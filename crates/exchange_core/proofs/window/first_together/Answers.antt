use Rattle.std.proofs.Common.{◌≡◌, ◌+◌, ◌-◌, inl, inr, arith, ap, sym, subst, ◌∙◌}
use Rattle.tape_image.specs.Word.{WordValue}
use Rattle.host_core.specs.Core.{word_nr}
use Rattle.exchange_core.specs.Window.{IsFirstTogether}
use Rattle.exchange_core.proofs.Together.{first_goes_on, read_word}
use Rattle.exchange_core.proofs.window.first_together.Goals as goal

pub returns-then-first-number : goal.returns-then-first-number
returns-then-first-number c =
    let word = read_word c.args.words.now c.args.number c.index-words-number.result c.requires.within c.index-words-number.is in
    let whole : (word_nr c.args.words.now c.args.number).mask ≡ 0o177777 = ap (λ (w : WordValue). w.mask) (sym word) ∙ (sym c.mask.ensures.value ∙ c.if-mask.false) in
    subst (λ n. IsFirstTogether c.args.words.now c.args.from n (c.args.number + 1)) c.if-first-number.true
    (first_goes_on c.args.words.now c.args.from c.args.first c.args.number c.requires.is whole (inl c.if-first-number.true))

pub returns-then-address : goal.returns-then-address
returns-then-address c =
    let words = c.args.words.now in
    let n = c.args.number in
    let word = read_word words n c.index-words-number.result c.requires.within c.index-words-number.is in
    let before = read_word words (n - 1) c.index-words-number-2.result (omega (arith, c.requires.within)) c.index-words-number-2.is in
    let whole : (word_nr words n).mask ≡ 0o177777 = ap (λ (w : WordValue). w.mask) (sym word) ∙ (sym c.mask.ensures.value ∙ c.if-mask.false) in
    let follows : (word_nr words n).address ≡ (word_nr words (n - 1)).address + 2 =
    ap (λ (w : WordValue). w.address) (sym word) ∙ (sym c.address-2.ensures.value ∙ (sym c.if-address.true ∙ (ap (λ a. a + 2) c.address.ensures.value ∙ ap (λ (w : WordValue). w.address + 2) before))) in
    first_goes_on words c.args.from c.args.first n c.requires.is whole
    (inr (λ k one. subst (λ m. (word_nr words n).address ≡ (word_nr words m).address + 2) (let same : n - 1 ≡ k = omega (arith, one) in same) follows))
