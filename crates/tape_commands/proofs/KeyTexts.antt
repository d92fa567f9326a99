-- Lines of keys: what is gathered, what ends a line, and what one more key adds.
use Rattle.request_values.specs.Change.{◌⇒◌}
use Rattle.std.proofs.Common.{◌≡◌, ℕ, ◌==◌, Bool, true, false, if◌then◌else◌, List, [], ◌∷◌, ◌++◌, length, map, Option, arith, refl, sym, ap, ◌∙◌, subst, append_assoc, append-nil, codes}
use Rattle.std.proofs.Common.{Result, Ok, Err, OnOk, OnErr}
use Rattle.std.specs.List.{flat_map, AllByRecursion}
use Rattle.std.specs.Io.KnownBytes.{Appends}
use Rattle.std.proofs.KnownBytes.{Appends-nil}
use Rattle.std.proofs.lemmas.Grind.{flat_map-append}
use Rattle.std.proofs.lemmas.List.{map-append, length-append}
use Rattle.std.proofs.lemmas.List.Concat.{flat_map-cons}
use Rattle.byte_io.specs.Output.{WritesPrefix}
use Rattle.tape_commands.specs.declared.key_line.KeyLine.{KeyLine}
use Rattle.tape_commands.specs.KeyLines.{Answered, Gathers, Holds, Notes, is_echo, in_first_line, key_lines, key_line, key_text, last_line, shown, shown_character, shown_keys, shown_answers}
use Rattle.byte_io.proofs.Fronts.{front_longer, front_none}

-- each of the keys was merely echoed
abbrev Echoes : List Answered → Type 0
Echoes keys = AllByRecursion (λ a. is_echo a ≡ true) keys

-- a key that was not echoed ends the line of the echoed ones before it
ended_line : (g : List Answered) (a : Answered) (more : List Answered) → Echoes g → is_echo a ≡ false → key_lines (g ++ a ∷ more) ≡ (g ++ a ∷ []) ∷ key_lines more
ended_line [] a more echoes off = ap (λ t. if t then in_first_line a (key_lines more) else (a ∷ []) ∷ key_lines more) off
ended_line (x ∷ g) a more echoes off =
    ap (λ t. if t then in_first_line x (key_lines (g ++ a ∷ more)) else (x ∷ []) ∷ key_lines (g ++ a ∷ more)) echoes.0
    ∙ ap (in_first_line x) (ended_line g a more echoes.1 off)

-- echoed keys make one line
one_line : (x : Answered) (g : List Answered) → Echoes (x ∷ g) → key_lines (x ∷ g) ≡ (x ∷ g) ∷ []
one_line x [] echoes = ap (λ t. if t then in_first_line x [] else (x ∷ []) ∷ []) echoes.0
one_line x (y ∷ g) echoes =
    ap (λ t. if t then in_first_line x (key_lines (y ∷ g)) else (x ∷ []) ∷ key_lines (y ∷ g)) echoes.0
    ∙ ap (in_first_line x) (one_line y g echoes.1)

-- the text of gathered keys is the line under way
pub gathered_text : (g : List Answered) → Echoes g → key_text g ≡ last_line g
gathered_text [] echoes = refl
gathered_text (x ∷ g) echoes = ap (flat_map key_line) (one_line x g echoes) ∙ flat_map-cons key_line (x ∷ g) [] ∙ append-nil (key_line (x ∷ g))

keys_more : (g : List Answered) (a : Answered) → shown_keys (g ++ a ∷ []) ≡ shown_keys g ++ shown (a.key ∷ [])
keys_more g a = ap shown (map-append (λ (b : Answered). b.key) g (a ∷ [])) ∙ flat_map-append shown_character (map (λ (b : Answered). b.key) g) (a.key ∷ [])

answers_more : (g : List Answered) (a : Answered) → shown_answers (g ++ a ∷ []) ≡ shown_answers g ++ shown a.answer
answers_more g a =
    ap shown
    (flat_map-append (λ (b : Answered). b.answer) g (a ∷ [])
    ∙ ap (λ l. flat_map (λ (b : Answered). b.answer) g ++ l) (flat_map-cons (λ (b : Answered). b.answer) a [] ∙ append-nil a.answer))
    ∙ flat_map-append shown_character (flat_map (λ (b : Answered). b.answer) g) a.answer

-- a line under way takes a key and its answer
pub holds_more : (g : List Answered) (a : Answered) (old now : KeyLine) → Holds g old → now.keys.items ≡ old.keys.items ++ shown (a.key ∷ []) → now.answers.items ≡ old.answers.items ++ shown a.answer → Holds (g ++ a ∷ []) now
holds_more g a old now holds keys answers = record {
  keys = keys ∙ ap (λ l. l ++ shown (a.key ∷ [])) holds.keys ∙ sym (keys_more g a);
  answers = answers ∙ ap (λ l. l ++ shown a.answer) holds.answers ∙ sym (answers_more g a);
}

some_shown : (a b d : Bool) (c : ℕ) → length (if a then codes "_" else (if b then codes "<CR>" else (if d then codes "<LF>" else c ∷ []))) ≡ 0 → ⊥
some_shown true b d c none = omega arith
some_shown false true d c none = omega arith
some_shown false false true c none = omega arith
some_shown false false false c none = omega arith

-- no key is shown as nothing
pub none_held : (held : List Answered) → length (shown_keys held) ≡ 0 → held ≡ []
none_held [] none = refl
none_held (a ∷ others) none =
    absurd (some_shown (a.key == 32) (a.key == 13) (a.key == 10) a.key
    (omega (arith, none, ap length (flat_map-cons shown_character a.key (map (λ (b : Answered). b.key) others)), length-append (shown_character a.key) (shown_keys others))))

last_is : (held : List Answered) → (held ≡ [] → ⊥) → last_line held ≡ key_line held
last_is [] some = absurd (some refl)
last_is (a ∷ others) some = refl

some_more : (g : List Answered) (a : Answered) → g ++ a ∷ [] ≡ [] → ⊥
some_more [] a none = cc
some_more (x ∷ g) a none = cc

pub none_noted : (g : List Answered) (now : KeyLine) (before : Option (List ℕ)) → Gathers g now → Notes g [] now (before ⇒ before)
none_noted g now before gathers = record { told = []; left = g; gathers = gathers; written = Appends-nil before; text = λ more. refl }

echoes_more : (g : List Answered) (a : Answered) → Echoes g → is_echo a ≡ true → Echoes (g ++ a ∷ [])
echoes_more [] a echoes on = (on, tt)
echoes_more (x ∷ g) a echoes on = (echoes.0, echoes_more g a echoes.1 on)

pub echo_noted : (g : List Answered) (a : Answered) (now : KeyLine) (before : Option (List ℕ)) → Holds (g ++ a ∷ []) now → Echoes g → is_echo a ≡ true → Notes g (a ∷ []) now (before ⇒ before)
echo_noted g a now before holds echoes on = record {
  told = [];
  left = g ++ a ∷ [];
  gathers = record { holds = holds; echoes = echoes_more g a echoes on };
  written = Appends-nil before;
  text = λ more. ap key_text (sym (append_assoc g (a ∷ []) more));
}

line_noted : (g : List Answered) (a : Answered) (now : KeyLine) (before after : Option (List ℕ)) → Echoes g → is_echo a ≡ false → Appends before after (last_line (g ++ a ∷ [])) → Holds [] now → Notes g (a ∷ []) now (before ⇒ after)
line_noted g a now before after echoes off written holds = record {
  told = key_line (g ++ a ∷ []);
  left = [];
  gathers = record { holds = holds; echoes = tt };
  written = subst (Appends before after) (last_is (g ++ a ∷ []) (some_more g a)) written;
  text = λ more. ap (flat_map key_line) (ended_line g a more echoes off) ∙ flat_map-cons key_line (g ++ a ∷ []) (key_lines more);
}

-- a line that is written whole ends with the key that was not echoed
pub line_ends : {T E : Type 0} (r : Result T E) (a : Answered) (old mid now : KeyLine) (before after : Option (List ℕ))
    → OnOk r ((held : List Answered) → Holds held mid → Appends before after (last_line held) × Holds [] now)
    → mid.keys.items ≡ old.keys.items ++ shown (a.key ∷ []) → mid.answers.items ≡ old.answers.items ++ shown a.answer → is_echo a ≡ false
    → OnOk r ((gathered : List Answered) → Gathers gathered old → Notes gathered (a ∷ []) now (before ⇒ after))
line_ends (Err e) a old mid now before after finished keys answers off = tt
line_ends (Ok x) a old mid now before after finished keys answers off = λ gathered gathers.
    let line = finished (gathered ++ a ∷ []) (holds_more gathered a old mid gathers.holds keys answers) in
    line_noted gathered a now before after gathers.echoes off line.0 line.1

-- a line that is written in part is a front of the text of all keys
pub line_fails : {T E : Type 0} (r : Result T E) (a : Answered) (old mid : KeyLine) (before after : Option (List ℕ))
    → OnErr r ((held : List Answered) → Holds held mid → WritesPrefix before after (last_line held))
    → mid.keys.items ≡ old.keys.items ++ shown (a.key ∷ []) → mid.answers.items ≡ old.answers.items ++ shown a.answer → is_echo a ≡ false
    → OnErr r ((gathered : List Answered) → Gathers gathered old → (more : List Answered) → WritesPrefix before after (key_text (gathered ++ (a ∷ more))))
line_fails (Ok x) a old mid before after failed keys answers off = tt
line_fails (Err e) a old mid before after failed keys answers off = λ gathered gathers more.
    let line = failed (gathered ++ a ∷ []) (holds_more gathered a old mid gathers.holds keys answers) in
    subst (WritesPrefix before after) (sym (ap (flat_map key_line) (ended_line gathered a more gathers.echoes off) ∙ flat_map-cons key_line (gathered ++ a ∷ []) (key_lines more)))
    (front_longer before after (key_line (gathered ++ a ∷ [])) (key_text more) (subst (WritesPrefix before after) (last_is (gathered ++ a ∷ []) (some_more gathered a)) line))

-- a line that is written in part is a front of the line of the keys held
held_fails : (under_way : KeyLine) (held : List Answered) (text : List ℕ) (before after : Option (List ℕ)) → Holds held under_way → (length under_way.keys.items ≡ 0 → ⊥)
    → text ≡ (under_way.keys.items ++ codes " -> " ++ under_way.answers.items) ++ 10 ∷ [] → WritesPrefix before after text → WritesPrefix before after (last_line held)
held_fails under_way held text before after holds some is front =
    subst (WritesPrefix before after)
    (is ∙ ap (λ l. (l ++ codes " -> " ++ under_way.answers.items) ++ 10 ∷ []) holds.keys ∙ ap (λ l. (shown_keys held ++ codes " -> " ++ l) ++ 10 ∷ []) holds.answers
    ∙ sym (last_is held (λ none. some (ap length holds.keys ∙ ap (λ h. length (shown_keys h)) none))))
    front

-- where nothing was written, nothing of a key's line was
pub none_of_key : {T E : Type 0} (r : Result T E) (a : Answered) (old : KeyLine) (out : Option (List ℕ))
    → OnErr r ((gathered : List Answered) → Gathers gathered old → (more : List Answered) → WritesPrefix out out (key_text (gathered ++ (a ∷ more))))
none_of_key (Ok x) a old out = tt
none_of_key (Err e) a old out = λ gathered gathers more. front_none out (key_text (gathered ++ (a ∷ more)))

-- .. nor of the line under way
pub none_of_line : {T E : Type 0} (r : Result T E) (old : KeyLine) (out : Option (List ℕ)) → OnErr r ((held : List Answered) → Holds held old → WritesPrefix out out (last_line held))
none_of_line (Ok x) old out = tt
none_of_line (Err e) old out = λ held holds. front_none out (last_line held)

-- the line under way, written in part
pub some_of_line : {T E : Type 0} (r : Result T E) (old : KeyLine) (text shown_text : List ℕ) (before after : Option (List ℕ)) → (length old.keys.items ≡ 0 → ⊥) → shown_text ≡ text
    → text ≡ (old.keys.items ++ codes " -> " ++ old.answers.items) ++ 10 ∷ [] → WritesPrefix before after shown_text → OnErr r ((held : List Answered) → Holds held old → WritesPrefix before after (last_line held))
some_of_line (Ok x) old text shown_text before after some same is front = tt
some_of_line (Err e) old text shown_text before after some same is front = λ held holds. held_fails old held text before after holds some is (subst (WritesPrefix before after) same front)
