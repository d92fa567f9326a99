-- A line says one thing.
use Rattle.std.proofs.Common.{◌≡◌, ℕ, ◌+◌, ◌*◌, ◌/◌, ◌%◌, ◌==◌, Bool, true, if◌then◌else◌, List, [], ◌∷◌, ◌++◌, length, take, drop, get_or, arith, ap, sym, refl, ◌∙◌, codes, ⊎_elim, false, ◌<◌}
use Rattle.std.specs.Char.{digit_value}
use Rattle.std.specs.Str.Parse.{digits_value}
use Rattle.std.proofs.lemmas.Bool.Decides.{nat_tests}
use Rattle.octal.specs.Octal.{octal_value}
use Rattle.odt_machine.specs.declared.style.Style.{Style}
use Rattle.odt_machine.specs.Style.{style_number}
use Rattle.line_world.specs.declared.event.Event.TheVariants.{Take, Hear, LoseDown, LoseUp, ChangeDown, ChangeUp, Quiet, Restart}
use Rattle.loss_scripts.specs.declared.line.ScriptStep.{ScriptStep}
use Rattle.loss_scripts.specs.declared.line.ScriptStep.TheVariants.{Times, Until, Clean}
use Rattle.loss_scripts.specs.declared.line.Setting.{Setting}
use Rattle.loss_scripts.specs.declared.line.Setting.TheVariants.{Words, OfStyle, Patience, Wait, Put}
use Rattle.loss_scripts.specs.declared.line.ScriptLine.{ScriptLine}
use Rattle.loss_scripts.specs.declared.line.ScriptLine.TheVariants as line
use Rattle.loss_scripts.specs.Line.{HasNumber, field, AreCodes, IsSetting, IsStep, IsLine}
use Rattle.loss_scripts.proofs.Forms.{put_parts}

-- the characters of codes
abbrev codes_in : List ℕ → List ℕ
codes_in (space ∷ high ∷ low ∷ rest) = (16 * digit_value high + digit_value low) ∷ codes_in rest
codes_in rest = []

codes_are : (text characters : List ℕ) → AreCodes text characters → codes_in text ≡ characters
codes_are text [] are = ap codes_in are
codes_are text (c ∷ cs) are =
    ap codes_in are.1.spelled ∙ ap (λ d. d ∷ codes_in are.0) (sym are.1.value) ∙ ap (λ ds. c ∷ ds) (codes_are are.0 cs are.2)

-- the style of a number
abbrev style_of : ℕ → Style
style_of n = record { space_before = n % 2 == 1; two_returns = n / 2 % 2 == 1; echo_illegal = n / 4 == 1 }

style_back : (s : Style) → style_of (style_number s) ≡ s
style_back s = back s.space_before s.two_returns s.echo_illegal
  where
    back : (a b c : Bool) → style_of (style_number (record { space_before = a; two_returns = b; echo_illegal = c })) ≡ record { space_before = a; two_returns = b; echo_illegal = c }
    back true true true = refl
    back true true false = refl
    back true false true = refl
    back true false false = refl
    back false true true = refl
    back false true false = refl
    back false false true = refl
    back false false false = refl

-- how often: once where nothing follows the keyword
abbrev count_in : List ℕ → ℕ
count_in text = if length text == 4 then 1 else digits_value 10 (drop 5 text)

-- what a line says that says something, by its first two characters
abbrev by_letter : ℕ → ℕ → List ℕ → ScriptLine
by_letter first second text =
    if first == 35 then line.Blank else (
    if first == 119 then (if second == 111 then line.Setting (Words (digits_value 10 (drop 6 text))) else line.Setting (Wait (record { items = codes_in (drop 4 text) }))) else (
    if first == 115 then line.Setting (OfStyle (style_of (digits_value 10 (drop 6 text)))) else (
    if first == 112 then (if second == 97 then line.Setting (Patience (digits_value 10 (drop 9 text))) else line.Setting (Put (octal_value (take 6 (drop 4 text))) (octal_value (drop 11 text)))) else (
    if first == 116 then (if second == 97 then line.Step (Times Take (count_in text)) else line.Step (Until (digits_value 10 (drop 3 text)))) else (
    if first == 104 then line.Step (Times Hear (count_in text)) else (
    if first == 100 then line.Step (Times (LoseDown (digits_value 10 (drop 5 text))) 1) else (
    if first == 117 then line.Step (Times (LoseUp (digits_value 10 (drop 3 text))) 1) else (
    if first == 114 then line.Step (Times (Restart (digits_value 10 (drop 8 text))) 1) else (
    if first == 113 then line.Step (Times Quiet 1) else line.Step Clean)))))))))

abbrev meaning : List ℕ → ScriptLine
meaning text = by_letter (get_or text 0 35) (get_or text 1 0) text

numbered : (text keyword : List ℕ) (low high n : ℕ) (said : ℕ → ScriptLine) → ((rest : List ℕ) → meaning (keyword ++ rest) ≡ said (digits_value 10 rest)) → HasNumber text (field keyword low high) n → meaning text ≡ said n
numbered text keyword low high n said computes has = ap meaning has.spelled ∙ computes has.rest ∙ ap said has.number.value

counted : (text keyword : List ℕ) (n : ℕ) (said : ℕ → ScriptLine) → ((rest : List ℕ) → 0 < length rest → meaning (keyword ++ rest) ≡ said (digits_value 10 rest)) → HasNumber text (field keyword 1 1000000) n → meaning text ≡ said n
counted text keyword n said computes has = ap meaning has.spelled ∙ computes has.rest has.number.some ∙ ap said has.number.value

take_times : (rest : List ℕ) → 0 < length rest → meaning (codes "take " ++ rest) ≡ line.Step (Times Take (digits_value 10 rest))
take_times rest some =
    let longer : (length (codes "take " ++ rest) == 4) ≡ false = grind (arith, nat_tests) in
    ap (λ t. line.Step (Times Take (if t then 1 else digits_value 10 rest))) longer

hear_times : (rest : List ℕ) → 0 < length rest → meaning (codes "hear " ++ rest) ≡ line.Step (Times Hear (digits_value 10 rest))
hear_times rest some =
    let longer : (length (codes "hear " ++ rest) == 4) ≡ false = grind (arith, nat_tests) in
    ap (λ t. line.Step (Times Hear (if t then 1 else digits_value 10 rest))) longer

steps : (text : List ℕ) (said : ScriptStep) → IsStep text said → meaning text ≡ line.Step said
steps text (Times Take n) h = ⊎_elim (λ once. ap meaning once.0 ∙ ap (λ m. line.Step (Times Take m)) (sym once.1)) (counted text (codes "take ") n (λ m. line.Step (Times Take m)) take_times) h
steps text (Times Hear n) h = ⊎_elim (λ once. ap meaning once.0 ∙ ap (λ m. line.Step (Times Hear m)) (sym once.1)) (counted text (codes "hear ") n (λ m. line.Step (Times Hear m)) hear_times) h
steps text (Times (LoseDown k) n) h = numbered text (codes "down ") 0 255 k (λ j. line.Step (Times (LoseDown j) 1)) (λ rest. refl) h.0 ∙ ap (λ m. line.Step (Times (LoseDown k) m)) (sym h.1)
steps text (Times (LoseUp k) n) h = numbered text (codes "up ") 0 255 k (λ j. line.Step (Times (LoseUp j) 1)) (λ rest. refl) h.0 ∙ ap (λ m. line.Step (Times (LoseUp k) m)) (sym h.1)
steps text (Times (ChangeDown k c) n) h = absurd h
steps text (Times (ChangeUp k c) n) h = absurd h
steps text (Times Quiet n) h = ap meaning h.0 ∙ ap (λ m. line.Step (Times Quiet m)) (sym h.1)
steps text (Times (Restart k) n) h = numbered text (codes "restart ") 0 4294967295 k (λ j. line.Step (Times (Restart j) 1)) (λ rest. refl) h.0 ∙ ap (λ m. line.Step (Times (Restart k) m)) (sym h.1)
steps text (Until n) h = numbered text (codes "to ") 1 4294967295 n (λ m. line.Step (Until m)) (λ rest. refl) h
steps text Clean h = ap meaning h

settings : (text : List ℕ) (said : Setting) → IsSetting text said → meaning text ≡ line.Setting said
settings text (Words n) h = numbered text (codes "words ") 0 28672 n (λ m. line.Setting (Words m)) (λ rest. refl) h
settings text (OfStyle style) h =
    numbered text (codes "style ") 0 7 (style_number style) (λ m. line.Setting (OfStyle (style_of m))) (λ rest. refl) h ∙ ap (λ s. line.Setting (OfStyle s)) (style_back style)
settings text (Patience n) h = numbered text (codes "patience ") 0 4294967295 n (λ m. line.Setting (Patience m)) (λ rest. refl) h
settings text (Wait waiting) h = ap meaning h.spelled ∙ ap (λ cs. line.Setting (Wait (record { items = cs }))) (codes_are h.rest waiting.items h.codes)
settings text (Put address value) h =
    let rest = h.first ++ 32 ∷ h.second in
    let parts = put_parts text rest address value h.spelled h in
    ap meaning h.spelled ∙ ap (λ a. line.Setting (Put a (octal_value (drop 7 rest)))) parts.address_is.value ∙ ap (λ v. line.Setting (Put address v)) parts.value_is.value

meanings : (text : List ℕ) (said : ScriptLine) → IsLine text said → meaning text ≡ said
meanings [] line.Blank h = refl
meanings (c ∷ cs) line.Blank h = ap (λ d. by_letter d (get_or cs 0 0) (d ∷ cs)) h
meanings text (line.Step said) h = steps text said h
meanings text (line.Setting said) h = settings text said h

-- a text says one thing
pub one_meaning : (text : List ℕ) (a b : ScriptLine) → IsLine text a → IsLine text b → a ≡ b
one_meaning text a b is_a is_b = sym (meanings text a is_a) ∙ meanings text b is_b
