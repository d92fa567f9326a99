-- A text is one script, or is refused at one line.
use Rattle.std.proofs.Common.{◌≡◌, ℕ, ◌+◌, ◌<◌, true, false, nat_lt, List, [], ◌∷◌, ◌++◌, length, take, get_or, arith, ap, sym, refl, ◌∙◌, subst, ⊎_elim, unwrap_or}
use Rattle.std.specs.List.{AllZip}
use Rattle.std.specs.Str.Lines.{lines}
use Rattle.std.proofs.lemmas.Bool.Decides.{nat_tests}
use Rattle.std.proofs.lemmas.List.{length-append}
use Rattle.std.proofs.Math.Seq.{take-append_seam, get_or-append_seam}
use Rattle.loss_scripts.specs.declared.line.ScriptLine.{ScriptLine}
use Rattle.loss_scripts.specs.declared.script.Script.{Script}
use Rattle.loss_scripts.specs.Line.{IsLine}
use Rattle.odt_machine.specs.Style.{plain_style}
use Rattle.loss_scripts.specs.Script.{first_in, words_in, style_in, patience_in, waiting_in, puts_of, steps_of, MayCome, IsInOrder, IsScript, IsRefusedLine, IsRefusedScript}
use Rattle.loss_scripts.specs.Law.{IsOnlyScript, IsOnlyRefusal}
use Rattle.loss_scripts.proofs.OneLine.{one_meaning}

-- lines say one list of things
same_said : (ls : List (List ℕ)) (a b : List ScriptLine) → AllZip IsLine ls a → AllZip IsLine ls b → a ≡ b
same_said [] [] [] is_a is_b = refl
same_said [] [] (y ∷ b) is_a is_b = absurd is_b
same_said [] (x ∷ a) b is_a is_b = absurd is_a
same_said (l ∷ ls) [] b is_a is_b = absurd is_a
same_said (l ∷ ls) (x ∷ a) [] is_a is_b = absurd is_b
same_said (l ∷ ls) (x ∷ a) (y ∷ b) is_a is_b = ap (λ s. s ∷ a) (one_meaning l x y is_a.0 is_b.0) ∙ ap (λ s. y ∷ s) (same_said ls a b is_a.1 is_b.1)

-- what lines say of which one stands behind others
record SaidAround (before : List (List ℕ)) (l : List ℕ) (said : List ScriptLine) : Type 0 where
  first : List ScriptLine
  line : ScriptLine
  more : List ScriptLine
  whole : said ≡ first ++ line ∷ more
  spelled : AllZip IsLine before first
  is_line : IsLine l line

said_around : (before : List (List ℕ)) (l : List ℕ) (after : List (List ℕ)) (said : List ScriptLine) → AllZip IsLine (before ++ l ∷ after) said → SaidAround before l said
said_around [] l after [] are = absurd are
said_around [] l after (s ∷ said) are = record { first = []; line = s; more = said; whole = refl; spelled = tt; is_line = are.0 }
said_around (b ∷ before) l after [] are = absurd are
said_around (b ∷ before) l after (s ∷ said) are =
    let so = said_around before l after said are.1 in
    record { first = s ∷ so.first; line = so.line; more = so.more; whole = ap (λ rest. s ∷ rest) so.whole; spelled = (are.0, so.spelled); is_line = so.is_line }

-- a line in order may come after those before it
may_come_there : (first : List ScriptLine) (line : ScriptLine) (more said : List ScriptLine) → said ≡ first ++ line ∷ more → IsInOrder said → MayCome first line
may_come_there first line more said whole in_order =
    let within : length first < length said = omega (arith, ap length whole, length-append first (line ∷ more)) in
    let there = in_order (length first) line within in
    subst (λ l. MayCome first l) (ap (λ s. get_or s (length first) line) whole ∙ get_or-append_seam first line more line)
    (subst (λ s. MayCome s (get_or said (length first) line)) (ap (take (length first)) whole ∙ take-append_seam first (line ∷ more)) there)

-- lines in order of which one is wrong are none
none_wrong : (text : List ℕ) (number : ℕ) (after : List (List ℕ)) (said : List ScriptLine) (r : IsRefusedLine text number) → AllZip IsLine (r.before ++ r.refused ∷ after) said → IsInOrder said → ⊥
none_wrong text number after said r are in_order =
    let so = said_around r.before r.refused after said are in
    let same : so.first ≡ r.said = same_said r.before so.first r.said so.spelled r.spelled in
    r.wrong so.line so.is_line (subst (λ s. MayCome s so.line) same (may_come_there so.first so.line so.more said so.whole in_order))

-- a list that begins in two ways begins with the shorter, and with the line behind it
begins_with : (xs ys : List (List ℕ)) (x y : List ℕ) (more others : List (List ℕ)) → xs ++ x ∷ more ≡ ys ++ y ∷ others → length xs < length ys → (rest : List (List ℕ)) × (ys ≡ xs ++ x ∷ rest)
begins_with [] [] x y more others same shorter = absurd (omega arith)
begins_with [] (z ∷ ys) x y more others same shorter = (ys, let head : x ≡ z = cc in ap (λ l. l ∷ ys) (sym head))
begins_with (w ∷ xs) [] x y more others same shorter = absurd (omega arith)
begins_with (w ∷ xs) (z ∷ ys) x y more others same shorter =
    let tail : xs ++ x ∷ more ≡ ys ++ y ∷ others = cc in
    let head : w ≡ z = cc in
    let so = begins_with xs ys x y more others tail (omega arith) in
    (so.0, ap (λ l. l ∷ ys) (sym head) ∙ ap (λ l. w ∷ l) so.1)

-- no line before a wrong one is wrong
none_before : (text : List ℕ) (m n : ℕ) (r : IsRefusedLine text m) (s : IsRefusedLine text n) → length r.before < length s.before → ⊥
none_before text m n r s shorter =
    let so = begins_with r.before s.before r.refused s.refused r.after s.after (sym r.all ∙ s.all) shorter in
    none_wrong text m so.0 s.said r (subst (λ ls. AllZip IsLine ls s.said) so.1 s.spelled) s.in_order

same_count : (m n : ℕ) → (m < n → ⊥) → (n < m → ⊥) → m ≡ n
same_count m n below above = elim (nat_lt m n) as (λ t. nat_lt m n ≡ t → m ≡ n) [
  | true ↦ (λ on. absurd (below (grind (arith, nat_tests))))
  | false ↦ (λ off. elim (nat_lt n m) as (λ t. nat_lt n m ≡ t → m ≡ n)
      [ true ↦ (λ on. absurd (above (grind (arith, nat_tests)))) | false ↦ (λ also_off. grind (arith, nat_tests)) ] refl)
] refl

one_line_refused : (text : List ℕ) (m n : ℕ) → IsRefusedLine text m → IsRefusedLine text n → m ≡ n
one_line_refused text m n r s =
    r.number_is ∙ ap (λ k. k + 1) (same_count (length r.before) (length s.before) (none_before text m n r s) (none_before text n m s r)) ∙ sym s.number_is

not_both : (text : List ℕ) (script : Script) (number : ℕ) → IsScript text script → IsRefusedScript text number → ⊥
not_both text script number is refused =
    ⊎_elim (λ long. let h = long.1 in let w = is.within in omega arith)
    (λ short. let r = short.1 in none_wrong text number r.after is.said r (subst (λ ls. AllZip IsLine ls is.said) r.all is.spelled) is.in_order) refused

one_refusal : (text : List ℕ) (m n : ℕ) → IsRefusedScript text m → IsRefusedScript text n → m ≡ n
one_refusal text m n first second =
    ⊎_elim (λ long. ⊎_elim (λ long_too. long.0 ∙ sym long_too.0) (λ short. absurd (let a = long.1 in let b = short.0 in omega arith)) second)
    (λ short. ⊎_elim (λ long. absurd (let a = long.1 in let b = short.0 in omega arith)) (λ short_too. one_line_refused text m n short.1 short_too.1) second) first

pub only_script : (text : List ℕ) (script : Script) → IsScript text script → IsOnlyScript text script
only_script text script is = record {
  no_other = λ other is_other.
      let same : is.said ≡ is_other.said = same_said (lines text) is.said is_other.said is.spelled is_other.spelled in
      record {
        words = is.words ∙ ap (λ s. unwrap_or (first_in words_in s) 28672) same ∙ sym is_other.words;
        style = is.style ∙ ap (λ s. unwrap_or (first_in style_in s) plain_style) same ∙ sym is_other.style;
        patience = is.patience ∙ ap (λ s. unwrap_or (first_in patience_in s) 8) same ∙ sym is_other.patience;
        waiting = is.waiting ∙ ap (λ s. unwrap_or (first_in waiting_in s) (record { items = [] })) same ∙ sym is_other.waiting;
        puts = is.puts ∙ ap puts_of same ∙ sym is_other.puts;
        steps = is.steps ∙ ap steps_of same ∙ sym is_other.steps;
      };
  not_refused = λ number refused. not_both text script number is refused;
}

pub only_refusal : (text : List ℕ) (number : ℕ) → IsRefusedScript text number → IsOnlyRefusal text number
only_refusal text number refused = record {
  no_other = λ other refused_too. one_refusal text number other refused refused_too;
  no_script = λ script is. not_both text script number is refused;
}
