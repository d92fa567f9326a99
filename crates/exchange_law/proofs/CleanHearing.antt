-- The host that hears the awaited answers, one after another.
use Rattle.std.proofs.Common.{◌≡◌, ℕ, zero, suc, ◌+◌, ◌-◌, ◌*◌, ◌/◌, ◌%◌, ◌<◌, ◌≤◌, Bool, true, false, List, [], ◌∷◌, ◌++◌, length, map, drop, refl, arith, ap, sym, subst, ◌∙◌, append_assoc}
use Rattle.std.proofs.lemmas.Bool.Decides.{nat_tests}
use Rattle.std.specs.Prelude.{◌==◌, nat_lt, if◌then◌else◌}
use Rattle.tape_image.specs.Image.{Image}
use Rattle.host_core.specs.declared.heard.Heard.{Heard}
use Rattle.host_core.specs.declared.heard.Heard.TheVariants.{Got}
use Rattle.host_devices.specs.declared.item.Item.{Item}
use Rattle.host_devices.specs.Dialogue.{keys_of}
use Rattle.exchange_core.specs.declared.chunk.Chunk.{Chunk}
use Rattle.exchange_core.specs.declared.duplex.Duplex.{Duplex}
use Rattle.exchange_core.specs.declared.exchange.Exchange.{Exchange}
use Rattle.exchange_core.specs.declared.phase.End.TheVariants.{Complete}
use Rattle.exchange_core.specs.declared.phase.Phase.TheVariants.{Answer, Ended, Leave}
use Rattle.exchange_core.specs.declared.turn.Turn.TheVariants.{Listen, More, Verified}
use Rattle.exchange_core.specs.Chunk.{answer_at, answer_for, chunk_keys, chunk_nr, keys_from, sent_at, told}
use Rattle.exchange_core.specs.Exchange.{ExchangeStep, advance, led, listens, next_chunk, sends_on, taken, with_chunk}
use Rattle.exchange_core.proofs.Keys.{keys_split, keys_through, sent_reaches, sent_rises, sent_within}
use Rattle.exchange_law.specs.Law.{dialogue, said_all}
use Rattle.stub.specs.Filling.{answered}
use Rattle.exchange_law.specs.Clean.{all_keys}
use Rattle.exchange_law.proofs.Filled.{told_text, told_texts}

-- ---- what is heard one after another

-- hearing these things leads an exchange to another, and makes the host send these keys
record Hears (image : Image) (chunks : List Chunk) (e : Exchange) (things : List Heard) (e' : Exchange) (keys : List ℕ) : Type 0 where
  pub leads : led image chunks e things ≡ e'
  pub says : keys_of (dialogue image chunks e things) ≡ keys

-- hearing these things completes an exchange
pub record Completes (image : Image) (chunks : List Chunk) (e : Exchange) (things : List Heard) (keys : List ℕ) : Type 0 where
  pub phase : (led image chunks e things).phase ≡ Ended Complete
  pub done : (led image chunks e things).done ≡ length chunks
  pub says : keys_of (dialogue image chunks e things) ≡ keys

keys_said : (keys : List ℕ) (items : List Item) → keys_of (said_all keys ++ items) ≡ keys ++ keys_of items
keys_said [] items = refl
keys_said (key ∷ keys) items = ap (λ list. key ∷ list) (keys_said keys items)

-- one thing more, before
hears_first : (image : Image) (chunks : List Chunk) (e : Exchange) (what : Heard) (things : List Heard) (s : ExchangeStep) (e' : Exchange) (keys : List ℕ) → advance image chunks e what ≡ s → Hears image chunks s.next things e' keys →
    Hears image chunks e (what ∷ things) e' (s.keys ++ keys)
hears_first image chunks e what things s e' keys is h = record {
  leads = ap (λ (t : ExchangeStep). led image chunks t.next things) is ∙ h.leads;
  says = keys_said (advance image chunks e what).keys (dialogue image chunks (advance image chunks e what).next things)
      ∙ (ap (λ (t : ExchangeStep). t.keys ++ keys_of (dialogue image chunks t.next things)) is ∙ ap (λ list. s.keys ++ list) h.says);
}

pub completes_first : (image : Image) (chunks : List Chunk) (e : Exchange) (what : Heard) (things : List Heard) (s : ExchangeStep) (keys : List ℕ) → advance image chunks e what ≡ s → Completes image chunks s.next things keys →
    Completes image chunks e (what ∷ things) (s.keys ++ keys)
completes_first image chunks e what things s keys is c = record {
  phase = ap (λ (t : ExchangeStep). (led image chunks t.next things).phase) is ∙ c.phase;
  done = ap (λ (t : ExchangeStep). (led image chunks t.next things).done) is ∙ c.done;
  says = keys_said (advance image chunks e what).keys (dialogue image chunks (advance image chunks e what).next things)
      ∙ (ap (λ (t : ExchangeStep). t.keys ++ keys_of (dialogue image chunks t.next things)) is ∙ ap (λ list. s.keys ++ list) c.says);
}

led_then : (image : Image) (chunks : List Chunk) (e : Exchange) (xs ys : List Heard) → led image chunks e (xs ++ ys) ≡ led image chunks (led image chunks e xs) ys
led_then image chunks e [] ys = refl
led_then image chunks e (x ∷ xs) ys = led_then image chunks (advance image chunks e x).next xs ys

said_then : (image : Image) (chunks : List Chunk) (e : Exchange) (xs ys : List Heard) → keys_of (dialogue image chunks e (xs ++ ys)) ≡ keys_of (dialogue image chunks e xs) ++ keys_of (dialogue image chunks (led image chunks e xs) ys)
said_then image chunks e [] ys = refl
said_then image chunks e (x ∷ xs) ys =
    let s : ExchangeStep = advance image chunks e x in
    keys_said s.keys (dialogue image chunks s.next (xs ++ ys))
    ∙ (ap (λ list. s.keys ++ list) (said_then image chunks s.next xs ys)
    ∙ (sym (append_assoc s.keys (keys_of (dialogue image chunks s.next xs)) (keys_of (dialogue image chunks (led image chunks s.next xs) ys)))
    ∙ ap (λ list. list ++ keys_of (dialogue image chunks (led image chunks s.next xs) ys)) (sym (keys_said s.keys (dialogue image chunks s.next xs)))))

completes_then : (image : Image) (chunks : List Chunk) (e e' : Exchange) (xs ys : List Heard) (one two : List ℕ) → Hears image chunks e xs e' one → Completes image chunks e' ys two → Completes image chunks e (xs ++ ys) (one ++ two)
completes_then image chunks e e' xs ys one two h c = record {
  phase = ap (λ (d : Exchange). d.phase) (led_then image chunks e xs ys) ∙ (ap (λ (d : Exchange). (led image chunks d ys).phase) h.leads ∙ c.phase);
  done = ap (λ (d : Exchange). d.done) (led_then image chunks e xs ys) ∙ (ap (λ (d : Exchange). (led image chunks d ys).done) h.leads ∙ c.done);
  says = said_then image chunks e xs ys ∙ (ap (λ list. list ++ keys_of (dialogue image chunks (led image chunks e xs) ys)) h.says
      ∙ ap (λ list. one ++ list) (ap (λ d. keys_of (dialogue image chunks d ys)) h.leads ∙ c.says));
}

-- ---- the awaited character

same_is : (a b : ℕ) → a ≡ b → (a == b) ≡ true
same_is a b e = grind (arith, nat_tests)

-- one that is not the last
pub goes_on : (image : Image) (chunks : List Chunk) (e : Exchange) (place x : ℕ) → x ≡ answer_at image (chunk_nr chunks e.done) place → place + 1 < 2 * (chunk_nr chunks e.done).size →
    advance image chunks (record e { phase = Answer place }) (Got x) ≡ sends_on image (chunk_nr chunks e.done) (record e { phase = Answer place }) place
goes_on image chunks e place x is more =
    ap (λ (t : Bool). taken image chunks (record e { phase = Answer place }) (if t then (if nat_lt (place + 1) (2 * (chunk_nr chunks e.done).size) then More place else Verified) else Listen Leave))
    (same_is x (answer_at image (chunk_nr chunks e.done) place) is)
    ∙ ap (λ (t : Bool). taken image chunks (record e { phase = Answer place }) (if t then More place else Verified)) (less (place + 1) (2 * (chunk_nr chunks e.done).size) more)
  where
    less : (a b : ℕ) → a < b → nat_lt a b ≡ true
    less a b h = grind (arith, nat_tests)

-- the last one
pub ends_chunk : (image : Image) (chunks : List Chunk) (e : Exchange) (place x : ℕ) → x ≡ answer_at image (chunk_nr chunks e.done) place → place + 1 ≡ 2 * (chunk_nr chunks e.done).size →
    advance image chunks (record e { phase = Answer place }) (Got x) ≡ next_chunk image chunks (with_chunk chunks e)
ends_chunk image chunks e place x is last =
    ap (λ (t : Bool). taken image chunks (record e { phase = Answer place }) (if t then (if nat_lt (place + 1) (2 * (chunk_nr chunks e.done).size) then More place else Verified) else Listen Leave))
    (same_is x (answer_at image (chunk_nr chunks e.done) place) is)
    ∙ ap (λ (t : Bool). taken image chunks (record e { phase = Answer place }) (if t then More place else Verified)) (not_less (place + 1) (2 * (chunk_nr chunks e.done).size) last)
  where
    not_less : (a b : ℕ) → a ≡ b → nat_lt a b ≡ false
    not_less a b h = grind (arith, nat_tests)

pub even_answer : (image : Image) (c : Chunk) (a j : ℕ) → a ≡ c.address + j → answered (told image a / 16) ≡ answer_at image c (2 * j)
even_answer image c a j is =
    ap (λ b. answered (told image b / 16)) is
    ∙ (sym (ap (λ (t : Bool). 111 - (if t then told image (c.address + j) / 16 else told image (c.address + j) % 16)) (test j)) ∙ ap (λ i. answer_for (told image (c.address + i)) (2 * j)) (sym (half_of j)))
  where
    half_of : (j : ℕ) → 2 * j / 2 ≡ j
    half_of j = omega arith

    test : (j : ℕ) → (2 * j % 2 == 0) ≡ true
    test j = grind (arith, nat_tests)

pub odd_answer : (image : Image) (c : Chunk) (a j : ℕ) → a ≡ c.address + j → answered (told image a % 16) ≡ answer_at image c (2 * j + 1)
odd_answer image c a j is =
    ap (λ b. answered (told image b % 16)) is
    ∙ (sym (ap (λ (t : Bool). 111 - (if t then told image (c.address + j) / 16 else told image (c.address + j) % 16)) (test j)) ∙ ap (λ i. answer_for (told image (c.address + i)) (2 * j + 1)) (sym (half_of j)))
  where
    half_of : (j : ℕ) → (2 * j + 1) / 2 ≡ j
    half_of j = omega arith

    test : (j : ℕ) → ((2 * j + 1) % 2 == 0) ≡ false
    test j = grind (arith, nat_tests)

-- ---- characters from a place on

-- so many characters of a chunk's answer
abbrev pub awaits : Image → Chunk → (place left : ℕ) → List ℕ
awaits image c place zero = []
awaits image c place (suc left) = answer_at image c place ∷ awaits image c (place + 1) left

pub told_awaits : (image : Image) (c : Chunk) (n j a : ℕ) → a ≡ c.address + j → told_text image a n ≡ awaits image c (2 * j) (2 * n)
told_awaits image c zero j a is = refl
told_awaits image c (suc n) j a is =
    ap (λ x. x ∷ answered (told image a % 16) ∷ told_text image (a + 1) n) (even_answer image c a j is) ∙ (ap (λ x. answer_at image c (2 * j) ∷ x ∷ told_text image (a + 1) n) (odd_answer image c a j is)
    ∙ (ap (λ list. answer_at image c (2 * j) ∷ answer_at image c (2 * j + 1) ∷ list) (told_awaits image c n (j + 1) (a + 1) (next a c.address j is))
    ∙ (ap (λ p. answer_at image c (2 * j) ∷ answer_at image c (2 * j + 1) ∷ awaits image c p (2 * n)) (place j) ∙ sym (ap (awaits image c (2 * j)) (twice n)))))
  where
    next : (a c j : ℕ) → a ≡ c + j → a + 1 ≡ c + (j + 1)
    next a c j is = omega arith

    place : (j : ℕ) → 2 * (j + 1) ≡ 2 * j + 1 + 1
    place j = omega arith

    twice : (n : ℕ) → 2 * suc n ≡ suc (suc (2 * n))
    twice n = omega arith

-- ---- the rest of a chunk's answer

-- the exchange that has heard so many characters of it, and sent what it then has
abbrev at_place : List Chunk → Exchange → ℕ → Exchange
at_place chunks e place = record e { sent = e.sent + sent_at e.duplex (chunk_nr chunks e.done) place; phase = Answer place }

-- the next chunk, behind all of this one
abbrev behind_chunk : Image → List Chunk → Exchange → ExchangeStep
behind_chunk image chunks e = next_chunk image chunks (with_chunk chunks (record e { sent = e.sent + 2 * (chunk_nr chunks e.done).size }))

-- the characters of it that were not sent yet
abbrev unsent : Duplex → Image → Chunk → ℕ → List ℕ
unsent duplex image c place = keys_from image c (sent_at duplex c place) (2 * c.size - sent_at duplex c place)

rest_heard : (image : Image) (chunks : List Chunk) (e : Exchange) (left place : ℕ) → place + suc left ≡ 2 * (chunk_nr chunks e.done).size →
    Hears image chunks (at_place chunks e place) (map Got (awaits image (chunk_nr chunks e.done) place (suc left))) (behind_chunk image chunks e).next (unsent e.duplex image (chunk_nr chunks e.done) place ++ (behind_chunk image chunks e).keys)
rest_heard image chunks e zero place all =
    let c : Chunk = chunk_nr chunks e.done in
    let s : ExchangeStep = behind_chunk image chunks e in
    let reaches = sent_reaches e.duplex (chunk_nr chunks e.done) place in
    let within = sent_within e.duplex (chunk_nr chunks e.done) place in
    let whole : sent_at e.duplex (chunk_nr chunks e.done) place ≡ 2 * (chunk_nr chunks e.done).size = omega (arith, all, reaches, within) in
    subst (λ keys. Hears image chunks (at_place chunks e place) (Got (answer_at image (chunk_nr chunks e.done) place) ∷ []) s.next keys)
    (nothing_more s.keys ∙ sym (ap (λ n. keys_from image c n (2 * c.size - n) ++ s.keys) whole ∙ ap (λ n. keys_from image c (2 * c.size) n ++ s.keys) (none (2 * c.size))))
    (hears_first image chunks (at_place chunks e place) (Got (answer_at image (chunk_nr chunks e.done) place)) [] s s.next []
    (ends_chunk image chunks (at_place chunks e place) place (answer_at image (chunk_nr chunks e.done) place) refl (last place (2 * c.size) all) ∙ ap (λ n. next_chunk image chunks (with_chunk chunks (record e { sent = e.sent + n }))) whole)
    (record { leads = refl; says = refl }))
  where
    last : (p n : ℕ) → p + 1 ≡ n → p + 1 ≡ n
    last p n e = e

    none : (n : ℕ) → n - n ≡ 0
    none n = omega arith

    nothing_more : (keys : List ℕ) → keys ++ [] ≡ keys
    nothing_more [] = refl
    nothing_more (k ∷ keys) = ap (λ list. k ∷ list) (nothing_more keys)
rest_heard image chunks e (suc left) place all =
    let c : Chunk = chunk_nr chunks e.done in
    let s : ExchangeStep = behind_chunk image chunks e in
    let from : ℕ = sent_at e.duplex (chunk_nr chunks e.done) place in
    let to : ℕ = sent_at e.duplex (chunk_nr chunks e.done) (place + 1) in
    let keys : List ℕ = keys_from image (chunk_nr chunks e.done) from (to - from) in
    let rises : sent_at e.duplex (chunk_nr chunks e.done) place ≤ sent_at e.duplex (chunk_nr chunks e.done) (place + 1) = sent_rises e.duplex (chunk_nr chunks e.done) place in
    let goes : advance image chunks (at_place chunks e place) (Got (answer_at image (chunk_nr chunks e.done) place)) ≡ record { next = at_place chunks e (place + 1); keys = keys } =
    goes_on image chunks (at_place chunks e place) place (answer_at image (chunk_nr chunks e.done) place) refl (more_yet place left (2 * (chunk_nr chunks e.done).size) all)
    ∙ ap (λ n. record { next = record e { sent = n; phase = Answer (place + 1) }; keys = keys }) (sums e.sent from to rises) in
    subst (λ said. Hears image chunks (at_place chunks e place) (Got (answer_at image (chunk_nr chunks e.done) place) ∷ map Got (awaits image (chunk_nr chunks e.done) (place + 1) (suc left))) s.next said)
    (sym (append_assoc keys (unsent e.duplex image c (place + 1)) s.keys)
    ∙ ap (λ list. list ++ s.keys) (keys_through image c from to (2 * c.size) rises (sent_within e.duplex (chunk_nr chunks e.done) (place + 1))))
    (hears_first image chunks (at_place chunks e place) (Got (answer_at image (chunk_nr chunks e.done) place)) (map Got (awaits image (chunk_nr chunks e.done) (place + 1) (suc left)))
    (record { next = at_place chunks e (place + 1); keys = keys }) s.next (unsent e.duplex image (chunk_nr chunks e.done) (place + 1) ++ s.keys) goes
    (rest_heard image chunks e left (place + 1) (next place left (2 * c.size) all)))
  where
    next : (p l n : ℕ) → p + suc (suc l) ≡ n → p + 1 + suc l ≡ n
    next p l n is = omega (arith, is)

    more_yet : (p l n : ℕ) → p + suc (suc l) ≡ n → p + 1 < n
    more_yet p l n is = omega (arith, is)

    sums : (s a b : ℕ) → a ≤ b → s + a + (b - a) ≡ s + b
    sums s a b rises = omega (arith, rises)

chunk_heard : (image : Image) (chunks : List Chunk) (e : Exchange) → 1 ≤ (chunk_nr chunks e.done).size →
    Hears image chunks (at_place chunks e 0) (map Got (told_text image (chunk_nr chunks e.done).address (chunk_nr chunks e.done).size)) (behind_chunk image chunks e).next (unsent e.duplex image (chunk_nr chunks e.done) 0 ++ (behind_chunk image chunks e).keys)
chunk_heard image chunks e some =
    let c : Chunk = chunk_nr chunks e.done in
    let s : ExchangeStep = behind_chunk image chunks e in
    subst (λ text. Hears image chunks (at_place chunks e 0) (map Got text) s.next (unsent e.duplex image c 0 ++ s.keys))
    (ap (awaits image c 0) (one (2 * c.size) (twice c.size some)) ∙ sym (told_awaits image c c.size 0 c.address (none c.address)))
    (rest_heard image chunks e (2 * c.size - 1) 0 (whole (2 * c.size) (twice c.size some)))
  where
    none : (a : ℕ) → a ≡ a + 0
    none a = omega arith

    twice : (n : ℕ) → 1 ≤ n → 1 ≤ 2 * n
    twice n some = omega (arith, some)

    one : (n : ℕ) → 1 ≤ n → suc (n - 1) ≡ n
    one n some = omega (arith, some)

    whole : (n : ℕ) → 1 ≤ n → 0 + suc (n - 1) ≡ n
    whole n some = omega (arith, some)

-- ---- all chunks that are left

map_then : (xs ys : List ℕ) → map Got (xs ++ ys) ≡ map Got xs ++ map Got ys
map_then [] ys = refl
map_then (x ∷ xs) ys = ap (λ list. Got x ∷ list) (map_then xs ys)

record IsHead (chunks : List Chunk) (n : ℕ) (c : Chunk) (more : List Chunk) : Type 0 where
  pub below : n < length chunks
  pub first : chunk_nr chunks n ≡ c
  pub rest : drop (n + 1) chunks ≡ more

head_of : (chunks : List Chunk) (n : ℕ) (c : Chunk) (more : List Chunk) → drop n chunks ≡ c ∷ more → IsHead chunks n c more
head_of [] zero c more is = absurd (cc is)
head_of [] (suc n) c more is = absurd (cc is)
head_of (d ∷ chunks) zero c more is = record { below = omega arith; first = cc is; rest = cc is }
head_of (d ∷ chunks) (suc n) c more is = let h = head_of chunks n c more is in record { below = (let low = h.below in omega (arith, low)); first = h.first; rest = ap (λ k. drop k (d ∷ chunks)) (one n) ∙ h.rest }
  where
    one : (n : ℕ) → suc n + 1 ≡ suc (n + 1)
    one n = omega arith

-- no chunk is left
none_left : (chunks : List Chunk) (n : ℕ) → n ≤ length chunks → drop n chunks ≡ [] → n ≡ length chunks
none_left [] zero le is = refl
none_left [] (suc n) le is = absurd (omega (arith, le))
none_left (d ∷ chunks) zero le is = absurd (cc is)
none_left (d ∷ chunks) (suc n) le is = let same = none_left chunks n (omega (arith, le)) is in omega (arith, same)

pub all_heard_on : (image : Image) (chunks : List Chunk) (more : List Chunk) (c : Chunk) (e : Exchange) → ((k : ℕ) → k < length chunks → 1 ≤ (chunk_nr chunks k).size) → drop e.done chunks ≡ c ∷ more →
    Completes image chunks (record e { sent = e.sent + sent_at e.duplex c 0; phase = Answer 0 }) (map Got (told_texts image (c ∷ more))) (keys_from image c (sent_at e.duplex c 0) (2 * c.size - sent_at e.duplex c 0) ++ all_keys image more)
all_heard_on image chunks [] c e some is =
    let h : IsHead chunks e.done c [] = head_of chunks e.done c [] is in
    let s : ExchangeStep = behind_chunk image chunks e in
    let e' : Exchange = with_chunk chunks (record e { sent = e.sent + 2 * (chunk_nr chunks e.done).size }) in
    let over : e.done + 1 ≡ length chunks = none_left chunks (e.done + 1) (let low = h.below in omega (arith, low)) h.rest in
    let ends : s ≡ listens e' (Ended Complete) = ap (λ (t : Bool). if t then record {
      next = record e' { sent = e'.sent + sent_at e.duplex (chunk_nr chunks (e.done + 1)) 0; phase = Answer 0 };
      keys = chunk_keys image (chunk_nr chunks (e.done + 1)) (sent_at e.duplex (chunk_nr chunks (e.done + 1)) 0);
    } else listens e' (Ended Complete)) (not_less (e.done + 1) (length chunks) over) in
    subst (λ (d : Chunk). Completes image chunks (record e { sent = e.sent + sent_at e.duplex d 0; phase = Answer 0 }) (map Got (told_texts image (d ∷ []))) (unsent e.duplex image d 0 ++ [])) h.first
    (subst (λ things. Completes image chunks (at_place chunks e 0) things (unsent e.duplex image (chunk_nr chunks e.done) 0 ++ [])) (sym (map_then (told_text image (chunk_nr chunks e.done).address (chunk_nr chunks e.done).size) []))
    (subst (λ keys. Completes image chunks (at_place chunks e 0) (map Got (told_text image (chunk_nr chunks e.done).address (chunk_nr chunks e.done).size) ++ []) keys)
    (nothing_more (unsent e.duplex image (chunk_nr chunks e.done) 0 ++ s.keys) ∙ ap (λ (t : ExchangeStep). unsent e.duplex image (chunk_nr chunks e.done) 0 ++ t.keys) ends)
    (completes_then image chunks (at_place chunks e 0) s.next (map Got (told_text image (chunk_nr chunks e.done).address (chunk_nr chunks e.done).size)) [] (unsent e.duplex image (chunk_nr chunks e.done) 0 ++ s.keys) []
    (chunk_heard image chunks e (some e.done h.below))
    (record { phase = ap (λ (t : ExchangeStep). t.next.phase) ends; done = ap (λ (t : ExchangeStep). t.next.done) ends ∙ over; says = refl }))))
  where
    not_less : (a b : ℕ) → a ≡ b → nat_lt a b ≡ false
    not_less a b h = grind (arith, nat_tests)

    nothing_more : (keys : List ℕ) → keys ++ [] ≡ keys
    nothing_more [] = refl
    nothing_more (k ∷ keys) = ap (λ list. k ∷ list) (nothing_more keys)
all_heard_on image chunks (d ∷ more) c e some is =
    let h : IsHead chunks e.done c (d ∷ more) = head_of chunks e.done c (d ∷ more) is in
    let g : IsHead chunks (e.done + 1) d more = head_of chunks (e.done + 1) d more h.rest in
    let s : ExchangeStep = behind_chunk image chunks e in
    let e' : Exchange = with_chunk chunks (record e { sent = e.sent + 2 * (chunk_nr chunks e.done).size }) in
    let goes : s ≡ record { next = record e' { sent = e'.sent + sent_at e.duplex (chunk_nr chunks (e.done + 1)) 0; phase = Answer 0 }; keys = chunk_keys image (chunk_nr chunks (e.done + 1)) (sent_at e.duplex (chunk_nr chunks (e.done + 1)) 0) } = ap (λ (t : Bool). if t then record {
      next = record e' { sent = e'.sent + sent_at e.duplex (chunk_nr chunks (e.done + 1)) 0; phase = Answer 0 };
      keys = chunk_keys image (chunk_nr chunks (e.done + 1)) (sent_at e.duplex (chunk_nr chunks (e.done + 1)) 0);
    } else listens e' (Ended Complete)) (less (e.done + 1) (length chunks) g.below) in
    let goes_on_so : s ≡ record { next = record e' { sent = e'.sent + sent_at e.duplex d 0; phase = Answer 0 }; keys = chunk_keys image d (sent_at e.duplex d 0) } =
    goes ∙ ap (λ (b : Chunk). record { next = record e' { sent = e'.sent + sent_at e.duplex b 0; phase = Answer 0 }; keys = chunk_keys image b (sent_at e.duplex b 0) }) g.first in
    let later = all_heard_on image chunks more d e' some h.rest in
    subst (λ (b : Chunk). Completes image chunks (record e { sent = e.sent + sent_at e.duplex b 0; phase = Answer 0 }) (map Got (told_texts image (b ∷ d ∷ more))) (unsent e.duplex image b 0 ++ all_keys image (d ∷ more))) h.first
    (subst (λ things. Completes image chunks (at_place chunks e 0) things (unsent e.duplex image (chunk_nr chunks e.done) 0 ++ all_keys image (d ∷ more))) (sym (map_then (told_text image (chunk_nr chunks e.done).address (chunk_nr chunks e.done).size) (told_texts image (d ∷ more))))
    (subst (λ keys. Completes image chunks (at_place chunks e 0) (map Got (told_text image (chunk_nr chunks e.done).address (chunk_nr chunks e.done).size) ++ map Got (told_texts image (d ∷ more))) keys)
    (append_assoc (unsent e.duplex image (chunk_nr chunks e.done) 0) s.keys (unsent e.duplex image d 0 ++ all_keys image more)
    ∙ ap (λ list. unsent e.duplex image (chunk_nr chunks e.done) 0 ++ list) (ap (λ (t : ExchangeStep). t.keys ++ (unsent e.duplex image d 0 ++ all_keys image more)) goes_on_so
    ∙ (sym (append_assoc (chunk_keys image d (sent_at e.duplex d 0)) (unsent e.duplex image d 0) (all_keys image more))
    ∙ ap (λ list. list ++ all_keys image more) (keys_split image d (2 * d.size - sent_at e.duplex d 0) (sent_at e.duplex d 0) ∙ ap (chunk_keys image d) (whole d)))))
    (completes_then image chunks (at_place chunks e 0) s.next (map Got (told_text image (chunk_nr chunks e.done).address (chunk_nr chunks e.done).size)) (map Got (told_texts image (d ∷ more))) (unsent e.duplex image (chunk_nr chunks e.done) 0 ++ s.keys) (unsent e.duplex image d 0 ++ all_keys image more)
    (chunk_heard image chunks e (some e.done h.below))
    (subst (λ (t : ExchangeStep). Completes image chunks t.next (map Got (told_texts image (d ∷ more))) (unsent e.duplex image d 0 ++ all_keys image more)) (sym goes_on_so) later))))
  where
    less : (a b : ℕ) → a < b → nat_lt a b ≡ true
    less a b h = grind (arith, nat_tests)

    whole : (c : Chunk) → sent_at e.duplex c 0 + (2 * c.size - sent_at e.duplex c 0) ≡ 2 * c.size
    whole c = let within = sent_within e.duplex c 0 in omega (arith, within)
