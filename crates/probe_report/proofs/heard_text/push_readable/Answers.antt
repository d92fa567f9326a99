use Rattle.std.proofs.Common.{ℕ, List, ◌++◌, ◌∙◌, ap, sym, take, get_or, arith}
use Rattle.std.specs.List.{flat_map}
use Rattle.std.proofs.lemmas.List.{flat_map_more, take_more}
use Rattle.probe_report.specs.HeardText.{readable}
use Rattle.probe_report.proofs.heard_text.push_readable.Goals as goal

-- how a character is shown
shown : ℕ → List ℕ
shown c = readable c

pub loop-character-preserved : goal.loop-character-preserved
unfolding shown
loop-character-preserved c =
    let all : List ℕ = c.args.characters.now in
    let i = c.loop-character.character-index in
    let this = get_or all i 0 in (
      c.push_character.ensures.items
          ∙ (ap (λ (text : List ℕ). text ++ shown this) c.loop-character.invariant.0
          ∙ (flat_map_more shown c.args.text.now.items (take i all) this
          ∙ ap (λ (some : List ℕ). c.args.text.now.items ++ flat_map shown some) (sym (take_more all i 0 c.loop-character-test.true)))),
      omega (arith, c.push_character.ensures.length, c.loop-character.invariant.1),
    )
