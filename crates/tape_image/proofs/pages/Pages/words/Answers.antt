use Rattle.std.proofs.Common.{◌≡◌, ℕ, ◌+◌, ◌-◌, ◌*◌, ◌<◌, Some, arith, sym, ap, ◌∙◌}
use Rattle.std.specs.FinMap.{get}
use Rattle.tape_image.specs.Image.{Image}
use Rattle.tape_image.specs.Pages.{byte_in_page}
use Rattle.tape_image.specs.Plan.{words_below}
use Rattle.tape_image.proofs.Plans.{words_below-none, words_below-same, words_below-all}
use Rattle.tape_image.proofs.Tables.{get-offset}
use Rattle.tape_image.proofs.pages.Pages.words.Goals as goal
use Rattle.tape_image.proofs.pages.Pages.words.Goals.{in-Some+in_ok-put_words, in_default}

pub loop-number-init : goal.loop-number-init
loop-number-init c = c.new-words.ensures.items ∙ sym (words_below-none c.args.self.now)

pub loop-number-preserved : goal.loop-number-preserved
loop-number-preserved c =
    let n = c.loop-number.number in
    let bytes : ((o : ℕ) → o < 512 → get c.args.self.now (512 * n + o) ≡ byte_in_page (Some c.page-item.result) o) =
    λ o within. get-offset c.self.inside.table.items c.deref-page-items.result.now c.page-item.result c.args.self.now n o c.deref-page-items.ensures.value c.self.invariant c.self.view_is (omega arith) c.page-item.is within in
    elim c.match-page.branch [
      | in-Some+in_ok-put_words w ↦
          ap (λ v. v.items) w.words-is
          ∙ w.in_ok-put_words.ensures c.args.self.now
          (λ o within. bytes o within ∙ ap (λ slot. byte_in_page (Some slot) o) w.in-Some.is ∙ ap (λ (page : Image). get page o) (sym w.deref.ensures))
          c.loop-number.invariant
      | in_default w ↦
          ap (λ v. v.items) w.words-is ∙ c.loop-number.invariant
          ∙ sym (words_below-same c.args.self.now (256 * n) 256 (λ a l u.
          let place : 512 * n + (a - 512 * n) ≡ a = omega arith in
          ap (get c.args.self.now) (sym place) ∙ bytes (a - 512 * n) (omega arith) ∙ ap (λ slot. byte_in_page (Some slot) (a - 512 * n)) w.in_default.is))
          ∙ (let next : 256 * n + 256 ≡ 256 * (n + 1) = omega arith in ap (words_below c.args.self.now) next)
    ]

pub returns : goal.returns
returns c =
    c.loop-number.invariant
    ∙ (let all : 256 * c.loop-number.number ≡ 28672 = omega arith in ap (words_below c.args.self.now) all)
    ∙ words_below-all c.args.self.now
