use Rattle.std.proofs.Common.{◌≡◌, ◌+◌, ◌*◌, ◌++◌, [], ◌∷◌, arith, sym, ap, ◌∙◌, rules}
use Rattle.std.specs.Option.{option_to_list}
use Rattle.std.specs.FinMap.{get}
use Rattle.std.proofs.lemmas.List.{append-nil}
use Rattle.tape_image.specs.Plan.{words_below}
use Rattle.tape_image.proofs.Plans.{words_below-more}
use Rattle.tape_image.proofs.page.Page.put_words.Goals as goal
use Rattle.tape_image.proofs.page.Page.put_words.Goals.{in-Some+in_ok-push, in_default}

pub loop-place-preserved : goal.loop-place-preserved
loop-place-preserved c image within start =
    let n = 256 * c.args.number + c.loop-place.place in
    let a = 512 * c.args.number + 2 * c.loop-place.place in
    let so_far = c.loop-place.invariant image within start in
    let next_place : a + 1 ≡ 512 * c.args.number + (2 * c.loop-place.place + 1) = omega arith in
    let more = words_below-more image n a c.byte_at-low.result c.byte_at-high.result (omega arith)
    (within (2 * c.loop-place.place) (omega arith) ∙ sym c.byte_at-low.ensures)
    (ap (get image) next_place ∙ within (2 * c.loop-place.place + 1) (omega arith) ∙ sym c.byte_at-high.ensures) in
    let next : n + 1 ≡ 256 * c.args.number + (c.loop-place.place + 1) = omega arith in
    let made = ap (λ o. words_below image n ++ option_to_list o) c.of_bytes.ensures ∙ sym more ∙ ap (words_below image) next in
    elim c.match-of_bytes.branch [
      | in-Some+in_ok-push w ↦
          ap (λ v. v.items) w.words-is ∙ w.in_ok-push.ensures.items ∙ ap (λ ws. ws ++ w.in-Some.word ∷ []) so_far
          ∙ ap (λ o. words_below image n ++ option_to_list o) (sym w.in-Some.is) ∙ made
      | in_default w ↦
          ap (λ v. v.items) w.words-is ∙ so_far ∙ sym (append-nil (words_below image n))
          ∙ ap (λ o. words_below image n ++ option_to_list o) (sym w.in_default.is) ∙ made
    ]

pub returns : goal.returns
returns c = search rules
