use Rattle.std.proofs.Common.{◌≡◌, ℕ, ◌*◌, List, [], ◌∷◌, ◌++◌, ◌∙◌, Option, ap, sym, append_assoc}
use Rattle.std.specs.Prelude.{codes, decimal}
use Rattle.probe_report.specs.Pace.{duration_text, load_lines, load_time}
use Rattle.probe_report.proofs.pace.push_load.Goals as goal

-- five texts that were put one behind the other, and the line that they make
joined : (text a b c d e end : List ℕ) → ((((text ++ a) ++ b) ++ c) ++ d) ++ (e ++ end) ≡ text ++ (((((a ++ b) ++ c) ++ d) ++ e) ++ end)
joined text a b c d e end =
    ap (λ (all : List ℕ). ((all ++ c) ++ d) ++ (e ++ end)) (append_assoc text a b)
    ∙ (ap (λ (all : List ℕ). (all ++ d) ++ (e ++ end)) (append_assoc text (a ++ b) c)
    ∙ (ap (λ (all : List ℕ). all ++ (e ++ end)) (append_assoc text ((a ++ b) ++ c) d)
    ∙ (append_assoc text (((a ++ b) ++ c) ++ d) (e ++ end) ∙ ap (λ (all : List ℕ). text ++ all) (sym (append_assoc (((a ++ b) ++ c) ++ d) e end)))))

pub returns-clause-items : goal.returns-clause-items
returns-clause-items c =
    let text = c.args.text.now.items in
    let begins : List ℕ = codes "a load of " in
    let count : List ℕ = decimal c.args.words in
    let takes : List ℕ = codes " words takes " in
    let time : List ℕ = duration_text (load_time c.in-Some.look c.args.words) in
    let ends : List ℕ = codes " at this pace" in
    c.push_bytes-3.ensures.items
    ∙ (ap (λ (t : List ℕ). t ++ (ends ++ 10 ∷ [])) ((c.push_duration.ensures.items ∙ ap (λ (n : ℕ). c.push_bytes-2.new.text.items ++ duration_text (n * 62 * c.from-2.result)) c.from.ensures
    ∙ ap (λ (n : ℕ). c.push_bytes-2.new.text.items ++ duration_text (c.in-Some.look * 62 * n)) c.from-2.ensures)
    ∙ ap (λ (t : List ℕ). t ++ time) (c.push_bytes-2.ensures.items
    ∙ ap (λ (t : List ℕ). t ++ takes) ((c.push_decimal.ensures.items ∙ ap (λ (n : ℕ). c.push_bytes.new.text.items ++ decimal n) c.into.ensures)
    ∙ ap (λ (t : List ℕ). t ++ count) c.push_bytes.ensures.items)))
    ∙ (joined text begins count takes time ends (10 ∷ []) ∙ ap (λ (look : Option ℕ). text ++ load_lines look c.args.words) (sym c.in-Some.is)))
