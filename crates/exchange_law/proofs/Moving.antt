-- Whatever a line does by itself keeps an exchange where it stands.
use Rattle.std.proofs.Common.{◌≡◌, ◌≢◌, ℕ, zero, suc, ◌+◌, ◌-◌, ◌*◌, ◌/◌, ◌<◌, ◌≤◌, ◌⊎◌, List, [], ◌∷◌, ◌++◌, length, inl, inr, refl, arith, ap, sym, subst, ◌∙◌, append-nil, append_assoc}
use Rattle.std.proofs.lemmas.List.Edits.{length-remove}
use Rattle.std.specs.List.{remove}
use Rattle.tape_image.specs.Image.{Image}
use Rattle.odt_machine.specs.Machine.{IsWide}
use Rattle.exchange_core.specs.declared.chunk.Chunk.{Chunk}
use Rattle.exchange_core.specs.declared.duplex.Duplex.{Duplex}
use Rattle.exchange_core.specs.declared.phase.Phase.{Phase}
use Rattle.exchange_core.specs.declared.phase.Phase.TheVariants.{Settle, Answer, Leave, Ended}
use Rattle.exchange_core.specs.declared.phase.End.TheVariants.{Complete, Broken}
use Rattle.tape_image.specs.Memory.{byte_of}
use Rattle.exchange_core.specs.Chunk.{answer_for, chunk_nr, is_nibble, sent_at}
use Rattle.exchange_core.specs.Exchange.{PhaseFits}
use Rattle.exchange_core.proofs.Keys.{sent_within}
use Rattle.exchange_law.specs.Station.{Program, Station, Each, Meets, answer_from, answer_text}
use Rattle.exchange_law.specs.Line.{Link, Moves, MovesTimes, MovesOn}
use Rattle.exchange_law.specs.Law.{Holds}
use Rattle.exchange_law.proofs.Holding.{AreApart, within_holds}
use Rattle.exchange_law.proofs.Texts.{IsNibble, TextFits, answer_grows, answer_is_one, answer_loses, answer_same, byte_small, each_removed, fits_some, fitting_has_none, nibbles, nibbles_append, nibbles_removed, one_if}
use Rattle.exchange_law.proofs.Standing.{Amid, Answers_are, Does, Intact, IsHalted, IsParted, IsZ, Kept, Stands, Took, left_at, left_next, met, no_first, none_removed, takes_amid, z_halts}

-- ---- the station takes a character

-- what was done keeps what stands
does_hold : (image : Image) (chunks : List Chunk) (before : List ℕ) (done bytes now : ℕ) (memory : List ℕ) (s' : Station) (answer : List ℕ) → AreApart chunks → done < length chunks → Holds image chunks before done memory →
    Does chunks done bytes memory now s' answer → Holds image chunks before done s'.odt.memory
does_hold image chunks before done bytes now memory s' answer apart below h (inl (same, is, none)) = subst (Holds image chunks before done) (sym is) h
does_hold image chunks before done bytes now memory s' answer apart below h (inr (one, less, changes, said)) =
    within_holds image chunks before done ((chunk_nr chunks done).address + bytes) memory s'.odt.memory apart below (record { from = omega arith; to = omega (arith, less) }) h changes

does_wide : (chunks : List Chunk) (done bytes now : ℕ) (memory : List ℕ) (s' : Station) (answer : List ℕ) → IsWide memory → Does chunks done bytes memory now s' answer → IsWide s'.odt.memory
does_wide chunks done bytes now memory s' answer wide (inl (same, is, none)) = subst IsWide (sym is) wide
does_wide chunks done bytes now memory s' answer wide (inr (one, less, changes, said)) = changes.wide wide

-- and what was answered
pair_has : (memory : List ℕ) (a : ℕ) (extra : List ℕ) (left : List ℕ) → IsWide memory → TextFits left extra → nibbles (answer_text memory a ++ extra) ≡ 2
pair_has memory a extra left wide fits =
    ap (λ b. one_if b + (one_if (is_nibble (answer_for (byte_of memory a) 1)) + nibbles extra)) (answer_is_one (byte_of memory a) 0 (byte_small memory wide a))
    ∙ (ap (λ b. 1 + (one_if b + nibbles extra)) (answer_is_one (byte_of memory a) 1 (byte_small memory wide a)) ∙ ap (λ n. 1 + (1 + n)) (fitting_has_none left extra fits))

does_answer : (image : Image) (chunks : List Chunk) (done place bytes now : ℕ) (memory up : List ℕ) (s' : Station) (answer : List ℕ) → IsWide memory → Does chunks done bytes memory now s' answer → Answers_are image chunks done place bytes memory up →
    Answers_are image chunks done place now s'.odt.memory (up ++ answer)
does_answer image chunks done place bytes now memory up s' answer wide (inl (same, is, none)) a =
    subst (λ n. Answers_are image chunks done place n s'.odt.memory (up ++ answer)) (sym same)
    (subst (λ m. Answers_are image chunks done place bytes m (up ++ answer)) (sym is) (subst (Answers_are image chunks done place bytes memory) (sym (ap (λ l. up ++ l) none ∙ append-nil up)) a))
does_answer image chunks done place bytes now memory up s' answer wide (inr (one, less, changes, (extra, fits, said))) (inl i) =
    subst (λ n. Answers_are image chunks done place n s'.odt.memory (up ++ answer)) (sym one)
    (inl (record {
      text = extra;
      fits = fits;
      order = let order = i.order in omega (arith, order);
      rest = ap (λ l. l ++ answer) i.rest
          ∙ (ap (λ l. (answer_from memory address place (2 * bytes - place) ++ l) ++ answer) none
          ∙ (ap (λ l. l ++ answer) (append-nil (answer_from memory address place (2 * bytes - place)))
          ∙ (ap (λ l. l ++ answer) (sym (answer_same memory s'.odt.memory address place (2 * bytes - place) bytes (let order = i.order in omega (arith, order)) stays))
          ∙ (ap (λ l. answer_from s'.odt.memory address place (2 * bytes - place) ++ l) said
          ∙ (sym (append_assoc (answer_from s'.odt.memory address place (2 * bytes - place)) (answer_text s'.odt.memory (address + bytes)) extra)
          ∙ (ap (λ l. l ++ extra) (sym (answer_grows s'.odt.memory address place (2 * bytes - place) bytes (let order = i.order in omega (arith, order))))
          ∙ ap (λ n. answer_from s'.odt.memory address place n ++ extra) (two_more place bytes i.order)))))));
      heard = λ q below. i.heard q below ∙ ap (λ b. answer_for b q) (sym (stays (q / 2) (let order = i.order in omega (arith, order, below))));
    }))
  where
    address : ℕ
    address = (chunk_nr chunks done).address

    none : i.text ≡ []
    none = fits_some (left_at chunks done bytes) ((chunk_nr chunks done).address + bytes) (left_at chunks done (bytes + 1)) i.text (left_next chunks done bytes less) i.fits

    stays : (k : ℕ) → k < bytes → byte_of s'.odt.memory ((chunk_nr chunks done).address + k) ≡ byte_of memory ((chunk_nr chunks done).address + k)
    stays k below = changes.bytes ((chunk_nr chunks done).address + k) (apart (chunk_nr chunks done).address k bytes below)
      where
        apart : (a k b : ℕ) → k < b → a + k ≢ a + b
        apart a k b below same = omega (arith, below, same)

    two_more : (place bytes : ℕ) → place ≤ 2 * bytes → 2 * bytes - place + 2 ≡ 2 * (bytes + 1) - place
    two_more place bytes order = omega (arith, order)
does_answer image chunks done place bytes now memory up s' answer wide (inr (one, less, changes, (extra, fits, said))) (inr few) =
    subst (λ n. Answers_are image chunks done place n s'.odt.memory (up ++ answer)) (sym one)
    (inr (let sum = nibbles_append up answer in let two = ap nibbles said ∙ pair_has s'.odt.memory ((chunk_nr chunks done).address + bytes) extra (left_at chunks done (bytes + 1)) (changes.wide wide) fits in omega (arith, few, sum, two)))

broken_off : (program : Program) (duplex : Duplex) (image : Image) (chunks : List Chunk) (before : List ℕ) (done : ℕ) (x : Link) → Holds image chunks before done x.machine.odt.memory → IsWide x.machine.odt.memory → Each IsZ x.down → IsParted chunks done x.machine →
    (c : ℕ) (rest : List ℕ) (s' : Station) (answer : List ℕ) → x.down ≡ c ∷ rest → Meets program x.machine.stub x.machine.odt c s' answer → Kept duplex image chunks before done (Ended Broken) (met x s' rest answer)
broken_off program duplex image chunks before done x h wide keys parted c rest s' answer first meets =
    let all : Each IsZ (c ∷ rest) = subst (Each IsZ) first keys in
    let halt : IsHalted x.machine s' = z_halts program chunks done x.machine s' answer parted (subst (λ k. Meets program x.machine.stub x.machine.odt k s' answer) all.0 meets) in record {
      holds = subst (Holds image chunks before done) (sym halt.memory) h;
      wide = subst IsWide (sym halt.memory) wide;
      stands = (all.1, inl halt.back);
    }

taken : (program : Program) (duplex : Duplex) (image : Image) (chunks : List Chunk) (before : List ℕ) (done : ℕ) (phase : Phase) (x : Link) → AreApart chunks → PhaseFits chunks done phase → Kept duplex image chunks before done phase x →
    (c : ℕ) (rest : List ℕ) (s' : Station) (answer : List ℕ) → x.down ≡ c ∷ rest → Meets program x.machine.stub x.machine.odt c s' answer → Kept duplex image chunks before done phase (met x s' rest answer)
taken program duplex image chunks before done Settle x apart fits k c rest s' answer first meets = absurd (no_first x.down rest c k.stands.0 first)
taken program duplex image chunks before done (Answer place) x apart fits k c rest s' answer first meets =
    let a = k.stands.0 in
    let t : Took chunks done (sent_at duplex (chunk_nr chunks done) place) x a.bytes s' rest answer = takes_amid program chunks done (sent_at duplex (chunk_nr chunks done) place) x (sent_within duplex (chunk_nr chunks done) place) a c rest s' answer first meets in record {
      holds = does_hold image chunks before done a.bytes t.next.bytes x.machine.odt.memory s' answer apart fits.0 k.holds t.how;
      wide = does_wide chunks done a.bytes t.next.bytes x.machine.odt.memory s' answer k.wide t.how;
      stands = (t.next, does_answer image chunks done place a.bytes t.next.bytes x.machine.odt.memory x.up s' answer k.wide t.how k.stands.1);
    }
taken program duplex image chunks before done Leave x apart fits k c rest s' answer first meets =
    let a = k.stands in
    let t : Took chunks done (2 * (chunk_nr chunks done).size) x a.bytes s' rest answer = takes_amid program chunks done (2 * (chunk_nr chunks done).size) x (omega arith) a c rest s' answer first meets in record {
      holds = does_hold image chunks before done a.bytes t.next.bytes x.machine.odt.memory s' answer apart fits k.holds t.how;
      wide = does_wide chunks done a.bytes t.next.bytes x.machine.odt.memory s' answer k.wide t.how;
      stands = t.next;
    }
taken program duplex image chunks before done (Ended Complete) x apart fits k c rest s' answer first meets = absurd (no_first x.down rest c k.stands.0 first)
taken program duplex image chunks before done (Ended Broken) x apart fits k c rest s' answer first meets = broken_off program duplex image chunks before done x k.holds k.wide k.stands.0 k.stands.1 c rest s' answer first meets

-- ---- a character is lost

amid_lost : (chunks : List Chunk) (done most : ℕ) (x : Link) (k lost : ℕ) → k < length x.down → Amid chunks done most x → Amid chunks done most (record x { down = remove x.down k; lost = lost })
amid_lost chunks done most x k lost below a = record {
  bytes = a.bytes;
  half = a.half;
  at = a.at;
  keys = each_removed IsNibble x.down k a.keys;
  few = let few = a.few in let one = length-remove x.down k below in omega (arith, few, one);
}

down_lost : (duplex : Duplex) (image : Image) (chunks : List Chunk) (before : List ℕ) (done : ℕ) (phase : Phase) (x : Link) → Kept duplex image chunks before done phase x → (k : ℕ) → k < length x.down →
    Stands duplex image chunks done phase (record x { down = remove x.down k; lost = x.lost + 1 })
down_lost duplex image chunks before done Settle x kept k below = absurd (none_removed x.down k kept.stands.0 below)
down_lost duplex image chunks before done (Answer place) x kept k below = let a = kept.stands.0 in (
  record {
    bytes = a.bytes;
    half = a.half;
    at = a.at;
    keys = each_removed IsNibble x.down k a.keys;
    few = let few = a.few in let one = length-remove x.down k below in omega (arith, few, one);
  },
  kept.stands.1,
)
down_lost duplex image chunks before done Leave x kept k below = amid_lost chunks done (2 * (chunk_nr chunks done).size) x k (x.lost + 1) below kept.stands
down_lost duplex image chunks before done (Ended Complete) x kept k below = absurd (none_removed x.down k kept.stands.0 below)
down_lost duplex image chunks before done (Ended Broken) x kept k below = (each_removed IsZ x.down k kept.stands.0, kept.stands.1)

intact_lost : (image : Image) (chunks : List Chunk) (done place bytes : ℕ) (memory up : List ℕ) → IsWide memory → (k : ℕ) → k < length up → Intact image chunks done place bytes memory up →
    Answers_are image chunks done place bytes memory (remove up k)
intact_lost image chunks done place bytes memory up wide k below i =
    let address : ℕ = (chunk_nr chunks done).address in
    let left : ℕ = 2 * bytes - place in
    subst (λ list. Answers_are image chunks done place bytes memory (remove list k)) (sym i.rest)
    (here address left (answer_loses memory wide address place left (left_at chunks done bytes) i.text k i.fits (subst (λ list. k < length list) i.rest below)) refl refl)
  where
    here : (address left : ℕ) → (nibbles (remove (answer_from memory address place left ++ i.text) k) < left)
        ⊎ ((less : List ℕ) × TextFits (left_at chunks done bytes) less × (remove (answer_from memory address place left ++ i.text) k ≡ answer_from memory address place left ++ less)) →
        address ≡ (chunk_nr chunks done).address → left ≡ 2 * bytes - place →
        Answers_are image chunks done place bytes memory (remove (answer_from memory address place left ++ i.text) k)
    here address left (inl few) a l = inr (let order = i.order in omega (arith, few, l, order))
    here address left (inr (less, fits, is)) a l =
        inl (record { text = less; fits = fits; order = i.order; rest = is ∙ (ap (λ n. answer_from memory n place left ++ less) a ∙ ap (λ n. answer_from memory (chunk_nr chunks done).address place n ++ less) l); heard = i.heard })

amid_up : (chunks : List Chunk) (done most : ℕ) (x : Link) (up : List ℕ) (lost : ℕ) → Amid chunks done most x → Amid chunks done most (record x { up = up; lost = lost })
amid_up chunks done most x up lost a = record { bytes = a.bytes; half = a.half; at = a.at; keys = a.keys; few = a.few }

up_lost : (duplex : Duplex) (image : Image) (chunks : List Chunk) (before : List ℕ) (done : ℕ) (phase : Phase) (x : Link) → Kept duplex image chunks before done phase x → (k : ℕ) → k < length x.up →
    Stands duplex image chunks done phase (record x { up = remove x.up k; lost = x.lost + 1 })
up_lost duplex image chunks before done Settle x kept k below = absurd (none_removed x.up k kept.stands.1 below)
up_lost duplex image chunks before done (Answer place) x kept k below =
    let a = kept.stands.0 in (
      record { bytes = a.bytes; half = a.half; at = a.at; keys = a.keys; few = a.few },
      elim kept.stands.1 [
        | inl i ↦ intact_lost image chunks done place a.bytes x.machine.odt.memory x.up kept.wide k below i
        | inr few ↦ inr (let less = nibbles_removed x.up k in omega (arith, few, less))
      ],
    )
up_lost duplex image chunks before done Leave x kept k below = amid_up chunks done (2 * (chunk_nr chunks done).size) x (remove x.up k) (x.lost + 1) kept.stands
up_lost duplex image chunks before done (Ended Complete) x kept k below = kept.stands
up_lost duplex image chunks before done (Ended Broken) x kept k below = kept.stands

-- ---- any moves

move_kept : (program : Program) (duplex : Duplex) (image : Image) (chunks : List Chunk) (before : List ℕ) (done : ℕ) (phase : Phase) (x y : Link) → AreApart chunks → PhaseFits chunks done phase → Kept duplex image chunks before done phase x → Moves program x y →
    Kept duplex image chunks before done phase y
move_kept program duplex image chunks before done phase x y apart fits kept (inl t) =
    subst (Kept duplex image chunks before done phase) (sym t.now) (taken program duplex image chunks before done phase x apart fits kept t.c t.rest t.station' t.answer t.first t.meets)
move_kept program duplex image chunks before done phase x y apart fits kept (inr (inl (k, below, now))) =
    subst (Kept duplex image chunks before done phase) (sym now) (record { holds = kept.holds; wide = kept.wide; stands = down_lost duplex image chunks before done phase x kept k below })
move_kept program duplex image chunks before done phase x y apart fits kept (inr (inr (k, below, now))) =
    subst (Kept duplex image chunks before done phase) (sym now) (record { holds = kept.holds; wide = kept.wide; stands = up_lost duplex image chunks before done phase x kept k below })

times_kept : (program : Program) (duplex : Duplex) (image : Image) (chunks : List Chunk) (before : List ℕ) (done : ℕ) (phase : Phase) (n : ℕ) (x y : Link) → AreApart chunks → PhaseFits chunks done phase → Kept duplex image chunks before done phase x → MovesTimes program n x y →
    Kept duplex image chunks before done phase y
times_kept program duplex image chunks before done phase zero x y apart fits kept same = subst (Kept duplex image chunks before done phase) (sym same) kept
times_kept program duplex image chunks before done phase (suc n) x y apart fits kept (z, move, rest) =
    times_kept program duplex image chunks before done phase n z y apart fits (move_kept program duplex image chunks before done phase x z apart fits kept move) rest

pub moves_kept : (program : Program) (duplex : Duplex) (image : Image) (chunks : List Chunk) (before : List ℕ) (done : ℕ) (phase : Phase) (x y : Link) → AreApart chunks → PhaseFits chunks done phase → Kept duplex image chunks before done phase x → MovesOn program x y →
    Kept duplex image chunks before done phase y
moves_kept program duplex image chunks before done phase x y apart fits kept moves = times_kept program duplex image chunks before done phase moves.0 x y apart fits kept moves.1
