-- A lawful key leaves a machine what every machine is.
use Rattle.std.proofs.Common.{◌≡◌, ℕ, ◌+◌, ◌/◌, ◌%◌, ◌<◌, ◌≤◌, ◌⊎◌, Bool, true, false, eqb, min, List, ◌∷◌, length, get_or, set, inl, inr, refl, arith, ap, sym, subst, get_or-set_other, lit≤}
use Rattle.std.proofs.lemmas.Grind.{get_or-set_at}
use Rattle.std.proofs.lemmas.List.{set_past}
use Rattle.std.specs.Prelude.{if◌then◌else◌}
use Rattle.tape_image.proofs.Halves.{merged_below}
use Rattle.odt_machine.specs.declared.style.Style.{Style}
use Rattle.odt_machine.specs.declared.mode.Mode.{Mode}
use Rattle.odt_machine.specs.declared.mode.Mode.TheVariants.{Prompt, Number, Opened, Typing, Running}
use Rattle.odt_machine.specs.declared.key.Key.{Key}
use Rattle.odt_machine.specs.declared.key.Key.TheVariants.{Digit, Return, Slash, Go, Other}
use Rattle.odt_machine.specs.Key.{key_of}
use Rattle.odt_machine.specs.Machine.{Machine, IsMachine, IsWide, ModeFits, is_word}
use Rattle.odt_machine.specs.KeyTable.{Taken, row, take_of, after_key}
use Rattle.host_core.specs.Core.{Core, word_nr}
use Rattle.line_world.specs.Scene.{Toll}
use Rattle.line_world.specs.Site.{wanted, ground, site_in}
use Rattle.line_world.specs.Invariant.{IsKept}
use Rattle.line_world.proofs.Frame.{scene}
use Rattle.line_world.proofs.Keys.{Stores, Takes}
use Rattle.line_world.proofs.Sites.{plan_site}
use Rattle.line_world.proofs.Stores.{same_or}
use Rattle.line_world.proofs.Taking.{key_takes, stores_length}

counted : (n : ℕ) → 1 ≤ n → (1 ≤ min (n + 1) 7) × (min (n + 1) 7 ≤ 7)
counted n h = (omega arith, omega arith)

opens : (s : Style) (memory : List ℕ) (v : ℕ) (b : Bool) (x y : Taken) → is_word memory v ≡ b → x.mode ≡ Opened v → y.mode ≡ Prompt → ModeFits memory (if b then x else y).mode
opens s memory v true x y is opened prompt = subst (ModeFits memory) (sym opened) is
opens s memory v false x y is opened prompt = subst (ModeFits memory) (sym prompt) tt

starts : (memory : List ℕ) (v : ℕ) (b : Bool) (x y : Taken) → x.mode ≡ Running v → y.mode ≡ Prompt → ModeFits memory (if b then x else y).mode
starts memory v true x y running prompt = subst (ModeFits memory) (sym running) tt
starts memory v false x y running prompt = subst (ModeFits memory) (sym prompt) tt

row_mode : (s : Style) (memory : List ℕ) (mode : Mode) (key : Key) (c : ℕ) → ModeFits memory mode → ModeFits memory (row s memory mode key c).mode
row_mode s memory Prompt Digit c h = (lit≤ tt, lit≤ tt)
row_mode s memory Prompt key c h = tt
row_mode s memory (Number v n) Digit c h = counted n h.0
row_mode s memory (Number v n) Slash c h = opens s memory v (is_word memory v) _ _ refl refl refl
row_mode s memory (Number v n) Go c h = starts memory v (eqb (v % 2) 0) _ _ refl refl
row_mode s memory (Number v n) Return c h = tt
row_mode s memory (Number v n) Other c h = tt
row_mode s memory (Opened a) Digit c h = (h, lit≤ tt, lit≤ tt)
row_mode s memory (Opened a) key c h = tt
row_mode s memory (Typing a v n) Digit c h = let more = counted n h.1 in (h.0, more.0, more.1)
row_mode s memory (Typing a v n) key c h = tt
row_mode s memory (Running p) key c h = tt

mode_elsewhere : (memory other : List ℕ) (mode : Mode) → length other ≡ length memory → ModeFits memory mode → ModeFits other mode
mode_elsewhere memory other Prompt same h = h
mode_elsewhere memory other (Number v n) same h = h
mode_elsewhere memory other (Opened a) same h = rw same h
mode_elsewhere memory other (Typing a v n) same h = (rw same h.0, h.1, h.2)
mode_elsewhere memory other (Running p) same h = h

wide_set : (xs : List ℕ) (i v : ℕ) → IsWide xs → v < 65536 → IsWide (set xs i v)
wide_set xs i v wide small j = elim (same_or j i) [
  | inl same ↦ elim (below (length xs) i) [
    | inl inside ↦ let now : get_or (set xs i v) j 0 ≡ v = get_or-set_at xs i j v 0 same inside in omega arith
    | inr past ↦ let now : get_or (set xs i v) j 0 ≡ get_or xs j 0 = ap (λ ys. get_or ys j 0) (set_past xs i v past) in let old = wide j in omega arith
  ]
  | inr apart ↦ let now : get_or (set xs i v) j 0 ≡ get_or xs j 0 = get_or-set_other xs i j v 0 apart in let old = wide j in omega arith
]
  where
    below : (n i : ℕ) → (i < n) ⊎ (n ≤ i)
    below n i = grind arith

-- the machine after the key under way
pub machine_taken : (m : Machine) (core : Core) (c : ℕ) (down up : List ℕ) (lost : Toll) → IsKept (scene m core (c ∷ down) up lost) → IsMachine (after_key m c)
machine_taken m core c down up lost k =
    let g = ground (scene m core (c ∷ down) up lost) in
    let takes : Takes g (take_of m c) = key_takes m core c down up lost k in
    let size = stores_length g (take_of m c).memory takes.memory in
    record {
      size = let before = k.machine.size in omega arith;
      wide = wide_stores m core (c ∷ down) up lost (take_of m c).memory k takes.memory;
      mode = mode_elsewhere m.memory (take_of m c).memory (take_of m c).mode size (row_mode m.style m.memory m.mode (key_of c) c k.machine.mode);
    }
  where
    wide_stores : (m : Machine) (core : Core) (down up : List ℕ) (lost : Toll) (memory : List ℕ) → IsKept (scene m core down up lost) → Stores (ground (scene m core down up lost)) memory → IsWide memory
    wide_stores m core down up lost memory k (inl same) = subst IsWide (sym same) k.machine.wide
    wide_stores m core down up lost memory k (inr (i, below, lies, same)) =
        let w = word_nr core.plan.words i in
        subst IsWide (sym same) (wide_set m.memory (w.address / 2) (wanted (site_in (ground (scene m core down up lost)) i)) k.machine.wide
        (merged_below w _ (plan_site m core down up lost i k.host.image).value (k.machine.wide (w.address / 2))))
