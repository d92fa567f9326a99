-- Where a host and the stub stand at a line that loses nothing.
use Rattle.std.proofs.Common.{◌≡◌, ℕ, zero, suc, ◌+◌, ◌-◌, ◌*◌, ◌/◌, ◌<◌, ◌≤◌, ◌⊎◌, List, [], ◌∷◌, ◌++◌, length, drop, None, inl, inr, refl, arith, ap, sym, subst, ◌∙◌, append-nil, append_assoc}
use Rattle.std.proofs.lemmas.List.{append_cancel_left, drop_all, drop_more}
use Rattle.std.specs.Prelude.{nat_lt}
use Rattle.tape_image.specs.Image.{Image}
use Rattle.tape_image.specs.Memory.{top_of}
use Rattle.tape_image.specs.Plan.{PlanValue}
use Rattle.odt_machine.specs.Machine.{IsWide}
use Rattle.host_core.specs.declared.heard.Heard.{Heard}
use Rattle.host_core.specs.declared.heard.Heard.TheVariants.{Got, Quiet}
use Rattle.exchange_core.specs.declared.chunk.Chunk.{Chunk}
use Rattle.exchange_core.specs.declared.duplex.Duplex.{Duplex}
use Rattle.exchange_core.specs.declared.exchange.Exchange.{Exchange}
use Rattle.exchange_core.specs.declared.phase.End.TheVariants.{Broken, Complete}
use Rattle.exchange_core.specs.declared.phase.Phase.{Phase}
use Rattle.exchange_core.specs.declared.phase.Phase.TheVariants.{Answer, Ended, Leave, Settle}
use Rattle.exchange_core.specs.Chunk.{AreChunks, answer_at, chunk_keys, chunk_nr, key_at, keys_from, no_chunk, sent_at}
use Rattle.exchange_core.specs.Exchange.{ExchangeStep, advance, begun, led, listens, next_chunk, sends_on, with_chunk}
use Rattle.exchange_core.proofs.Chunks.{chunks_apart}
use Rattle.exchange_core.proofs.Keys.{keys_more, keys_through, sent_reaches, sent_rises, sent_within}
use Rattle.exchange_core.proofs.Steps.{below, not_below, on_step}
use Rattle.exchange_law.specs.Law.{Holds, bytes_of, dialogue}
use Rattle.exchange_law.proofs.Texts.{some_is, told_small}
use Rattle.stub.specs.Filling.{Filling, after, taken}
use Rattle.line_world.specs.Wire.{Times}
use Rattle.honest_line.specs.Moves.{Gives}
use Rattle.exchange_law.proofs.Links.{passing_keys}
use Rattle.exchange_law.specs.Cable.{Cable, CleanLinesBringAllIn, GoesWell, IsOnItsWay, Passes, Takes, still}
use Rattle.exchange_law.proofs.Filled.{AreBytes, AreInside, all_in, all_length, all_other, all_written, answered_by, chunk_taken, midway, told_text, written, written_length, written_wide, after_then}
use Rattle.exchange_law.proofs.Standing.{left_at, left_first}
use Rattle.exchange_law.proofs.CleanHearing.{awaits, ends_chunk, goes_on, told_awaits}

-- ---- memory and stub behind some chunks

abbrev mems : Image → List Chunk → List ℕ → ℕ → List ℕ
mems image chunks memory zero = memory
mems image chunks memory (suc k) = written image (chunk_nr chunks k) (mems image chunks memory k) (chunk_nr chunks k).size

mems_length : (image : Image) (chunks : List Chunk) (memory : List ℕ) (k : ℕ) → length (mems image chunks memory k) ≡ length memory
mems_length image chunks memory zero = refl
mems_length image chunks memory (suc k) = written_length image (chunk_nr chunks k) (mems image chunks memory k) (chunk_nr chunks k).size ∙ mems_length image chunks memory k

mems_wide : (image : Image) (chunks : List Chunk) (memory : List ℕ) (k : ℕ) → AreBytes image → IsWide memory → IsWide (mems image chunks memory k)
mems_wide image chunks memory zero small wide = wide
mems_wide image chunks memory (suc k) small wide = written_wide image (chunk_nr chunks k) (mems image chunks memory k) (chunk_nr chunks k).size small (mems_wide image chunks memory k small wide)

mems_rest : (image : Image) (chunks : List Chunk) (memory : List ℕ) (k : ℕ) → k ≤ length chunks → all_written image (drop k chunks) (mems image chunks memory k) ≡ all_written image chunks memory
mems_rest image chunks memory zero le = refl
mems_rest image chunks memory (suc k) le =
    ap (λ list. all_written image list (mems image chunks memory (suc k))) (ap (λ n. drop n chunks) (one k))
    ∙ (sym (ap (λ list. all_written image list (mems image chunks memory k)) (drop_more chunks k no_chunk (omega (arith, le)))) ∙ mems_rest image chunks memory k (omega (arith, le)))
  where
    one : (k : ℕ) → suc k ≡ k + 1
    one k = omega arith

mems_all : (image : Image) (chunks : List Chunk) (memory : List ℕ) → mems image chunks memory (length chunks) ≡ all_written image chunks memory
mems_all image chunks memory =
    sym (ap (λ list. all_written image list (mems image chunks memory (length chunks))) (drop_all (length chunks) chunks (omega arith))) ∙ mems_rest image chunks memory (length chunks) (omega arith)

-- the stub behind so many chunks
abbrev start : Image → List Chunk → List ℕ → ℕ → List ℕ → Filling
start image chunks memory k answers = record { memory = mems image chunks memory k; left = bytes_of (drop k chunks); high = None; answers = answers }

abbrev IsAt : Image → List Chunk → List ℕ → ℕ → Filling → Type 0
IsAt image chunks memory k stub = (answers : List ℕ) × (stub ≡ start image chunks memory k answers)

-- before a chunk it is midway in it, behind none of its bytes
start_midway : (image : Image) (chunks : List Chunk) (memory : List ℕ) (k : ℕ) (answers : List ℕ) → k < length chunks →
    start image chunks memory k answers ≡ midway image (chunk_nr chunks k) (bytes_of (drop (k + 1) chunks)) (mems image chunks memory k) answers 0
start_midway image chunks memory k answers below =
    ap (λ left. record { memory = mems image chunks memory k; left = left; high = None; answers = answers }) (left_first chunks k below)
    ∙ ap (λ text. record { memory = mems image chunks memory k; left = left_at chunks k 0; high = None; answers = text }) (sym (append-nil answers))

-- ---- where they stand

-- some characters of a chunk were sent, the stub has taken some of these, and its answers are under way but for those that were heard
record Amidst (duplex : Duplex) (image : Image) (chunks : List Chunk) (memory : List ℕ) (k place : ℕ) (x : Cable) : Type 0 where
  pub answers : List ℕ
  pub n : ℕ
  pub few : n ≤ sent_at duplex (chunk_nr chunks k) place
  pub stub_is : x.machine ≡ after (start image chunks memory k answers) (chunk_keys image (chunk_nr chunks k) n)
  pub keys : x.down ≡ keys_from image (chunk_nr chunks k) n (sent_at duplex (chunk_nr chunks k) place - n)
  pub order : place ≤ 2 * (n / 2)
  pub less : place < 2 * (chunk_nr chunks k).size
  pub text : x.up ≡ awaits image (chunk_nr chunks k) place (2 * (n / 2) - place)

abbrev Stands : Duplex → Image → List Chunk → List ℕ → Phase → ℕ → Cable → Type 0
Stands duplex image chunks memory (Answer place) k x = (k < length chunks) × Amidst duplex image chunks memory k place x
Stands duplex image chunks memory (Ended Complete) k x = (k ≡ length chunks) × (x.down ≡ []) × (x.up ≡ []) × IsAt image chunks memory k x.machine
Stands duplex image chunks memory phase k x = ⊥

-- what is known of image, chunks and memory
record Known (image : Image) (chunks : List Chunk) (memory : List ℕ) : Type 0 where
  pub small : AreBytes image
  pub wide : IsWide memory
  pub inside : AreInside chunks (top_of memory)

-- ---- lists

heads : {a b : ℕ} {xs ys : List ℕ} → a ∷ xs ≡ b ∷ ys → a ≡ b
heads e = cc e

tails : {a b : ℕ} {xs ys : List ℕ} → a ∷ xs ≡ b ∷ ys → xs ≡ ys
tails e = cc e

clash : (xs rest : List ℕ) (c : ℕ) → xs ≡ [] → xs ≡ c ∷ rest → ⊥
clash xs rest c none first = different (sym none ∙ first)
  where
    different : [] ≡ c ∷ rest → ⊥
    different e = absurd (cc e)

one_less : (n s : ℕ) → n < s → s - n ≡ suc (s - (n + 1))
one_less n s less = omega (arith, less)

keys_first : (image : Image) (c : Chunk) (n s : ℕ) → n < s → keys_from image c n (s - n) ≡ key_at image c n ∷ keys_from image c (n + 1) (s - (n + 1))
keys_first image c n s less = ap (keys_from image c n) (one_less n s less)

awaits_first : (image : Image) (c : Chunk) (n s : ℕ) → n < s → awaits image c n (s - n) ≡ answer_at image c n ∷ awaits image c (n + 1) (s - (n + 1))
awaits_first image c n s less = ap (awaits image c n) (one_less n s less)

no_keys : (image : Image) (c : Chunk) (n s : ℕ) → s ≤ n → keys_from image c n (s - n) ≡ []
no_keys image c n s le = ap (keys_from image c n) (none n s le)
  where
    none : (n s : ℕ) → s ≤ n → s - n ≡ 0
    none n s le = omega (arith, le)

no_answers : (image : Image) (c : Chunk) (n s : ℕ) → s ≤ n → awaits image c n (s - n) ≡ []
no_answers image c n s le = ap (awaits image c n) (none n s le)
  where
    none : (n s : ℕ) → s ≤ n → s - n ≡ 0
    none n s le = omega (arith, le)

next_or : (n s : ℕ) → (n < s) ⊎ (s ≤ n)
next_or n s = grind arith

-- ---- the stub takes a character

-- a chunk lies in memory
room_at : (image : Image) (chunks : List Chunk) (memory : List ℕ) (k : ℕ) → Known image chunks memory → k < length chunks → (chunk_nr chunks k).address + (chunk_nr chunks k).size ≤ top_of (mems image chunks memory k)
room_at image chunks memory k known below = subst (λ n. (chunk_nr chunks k).address + (chunk_nr chunks k).size ≤ 2 * n) (sym (mems_length image chunks memory k)) (known.inside k below).1

-- the awaited characters up to a place, and from it on
awaits_split : (image : Image) (c : Chunk) (n m place : ℕ) → awaits image c place (n + m) ≡ awaits image c place n ++ awaits image c (place + n) m
awaits_split image c zero m place = ap (awaits image c place) (none m) ∙ ap (λ p. awaits image c p m) (same place)
  where
    none : (m : ℕ) → 0 + m ≡ m
    none m = omega arith

    same : (p : ℕ) → p ≡ p + 0
    same p = omega arith
awaits_split image c (suc n) m place =
    ap (awaits image c place) (one n m) ∙ ap (λ list. answer_at image c place ∷ list) (awaits_split image c n m (place + 1) ∙ ap (λ p. awaits image c (place + 1) n ++ awaits image c p m) (again place n))
  where
    one : (n m : ℕ) → suc n + m ≡ suc (n + m)
    one n m = omega arith

    again : (p n : ℕ) → p + 1 + n ≡ p + suc n
    again p n = omega arith

-- what is awaited up to a place grows by a text, and so does what of it was not heard
grown : (image : Image) (c : Chunk) (place n m : ℕ) (text : List ℕ) → place ≤ n → n ≤ m → awaits image c 0 m ≡ awaits image c 0 n ++ text → awaits image c place (n - place) ++ text ≡ awaits image c place (m - place)
grown image c place n m text order more is =
    append_cancel_left (awaits image c 0 place) (awaits image c place (n - place) ++ text) (awaits image c place (m - place))
    (sym (append_assoc (awaits image c 0 place) (awaits image c place (n - place)) text)
    ∙ (ap (λ list. list ++ text) (sym (from_place n order))
    ∙ (sym is ∙ from_place m (omega (arith, order, more)))))
  where
    from_place : (n : ℕ) → place ≤ n → awaits image c 0 n ≡ awaits image c 0 place ++ awaits image c place (n - place)
    from_place n le = ap (awaits image c 0) (sum place n le) ∙ (awaits_split image c place (n - place) 0 ∙ ap (λ p. awaits image c 0 place ++ awaits image c p (n - place)) (none place))
      where
        sum : (p n : ℕ) → p ≤ n → n ≡ p + (n - p)
        sum p n le = omega (arith, le)

        none : (p : ℕ) → 0 + p ≡ p
        none p = omega arith

-- what it has answered behind so many characters of a chunk
answered_at : (image : Image) (chunks : List Chunk) (memory : List ℕ) (k n : ℕ) (answers : List ℕ) → Known image chunks memory → k < length chunks → n ≤ 2 * (chunk_nr chunks k).size →
    (after (start image chunks memory k answers) (chunk_keys image (chunk_nr chunks k) n)).answers ≡ answers ++ awaits image (chunk_nr chunks k) 0 (2 * (n / 2))
answered_at image chunks memory k n answers known below le =
    let c : Chunk = chunk_nr chunks k in
    ap (λ f. (after f (chunk_keys image (chunk_nr chunks k) n)).answers) (start_midway image chunks memory k answers below)
    ∙ (answered_by image (chunk_nr chunks k) (bytes_of (drop (k + 1) chunks)) (mems image chunks memory k) answers n known.small (mems_wide image chunks memory k known.small known.wide) (room_at image chunks memory k known below) le
    ∙ ap (λ text. answers ++ text) (told_awaits image (chunk_nr chunks k) (n / 2) 0 (chunk_nr chunks k).address (none (chunk_nr chunks k).address)))
  where
    none : (a : ℕ) → a ≡ a + 0
    none a = omega arith

-- behind a whole chunk
whole_at : (image : Image) (chunks : List Chunk) (memory : List ℕ) (k : ℕ) (answers : List ℕ) → Known image chunks memory → k < length chunks →
    after (start image chunks memory k answers) (chunk_keys image (chunk_nr chunks k) (2 * (chunk_nr chunks k).size)) ≡
    start image chunks memory (k + 1) (answers ++ told_text image (chunk_nr chunks k).address (chunk_nr chunks k).size)
whole_at image chunks memory k answers known below =
    let c : Chunk = chunk_nr chunks k in
    ap (λ f. after f (chunk_keys image (chunk_nr chunks k) (2 * (chunk_nr chunks k).size))) (start_midway image chunks memory k answers below)
    ∙ (chunk_taken image (chunk_nr chunks k) (bytes_of (drop (k + 1) chunks)) (mems image chunks memory k) answers known.small (mems_wide image chunks memory k known.small known.wide) (room_at image chunks memory k known below)
    ∙ ap (λ (memory' : List ℕ). record { memory = memory'; left = bytes_of (drop (k + 1) chunks); high = None; answers = answers ++ told_text image (chunk_nr chunks k).address (chunk_nr chunks k).size }) (ap (mems image chunks memory) (one k)))
  where
    one : (k : ℕ) → suc k ≡ k + 1
    one k = omega arith

amidst_takes : (duplex : Duplex) (image : Image) (chunks : List Chunk) (memory : List ℕ) (k place : ℕ) (x y : Cable) → Known image chunks memory → k < length chunks → Amidst duplex image chunks memory k place x → Takes x y → Amidst duplex image chunks memory k place y
amidst_takes duplex image chunks memory k place x y known below a t = elim (next_or a.n (sent_at duplex (chunk_nr chunks k) place)) [
  | inr none ↦ absurd (clash x.down t.rest t.c (a.keys ∙ no_keys image (chunk_nr chunks k) a.n (sent_at duplex (chunk_nr chunks k) place) none) t.first)
  | inl less ↦ subst (Amidst duplex image chunks memory k place) (sym t.now) (taken_one less)
]
  where
    taken_one : a.n < sent_at duplex (chunk_nr chunks k) place → Amidst duplex image chunks memory k place (record { machine = taken x.machine t.c; down = t.rest; up = x.up ++ t.text; lost = x.lost })
    taken_one less =
        let c : Chunk = chunk_nr chunks k in
        let n : ℕ = a.n in
        let both : t.c ∷ t.rest ≡ key_at image (chunk_nr chunks k) a.n ∷ keys_from image (chunk_nr chunks k) (a.n + 1) (sent_at duplex (chunk_nr chunks k) place - (a.n + 1)) =
        sym t.first ∙ (a.keys ∙ keys_first image (chunk_nr chunks k) a.n (sent_at duplex (chunk_nr chunks k) place) less) in
        let now : taken x.machine t.c ≡ after (start image chunks memory k a.answers) (chunk_keys image (chunk_nr chunks k) (a.n + 1)) =
        ap (taken x.machine) (heads both)
        ∙ (ap (λ f. taken f (key_at image (chunk_nr chunks k) a.n)) a.stub_is
        ∙ (sym (after_then (start image chunks memory k a.answers) (chunk_keys image (chunk_nr chunks k) a.n) (key_at image (chunk_nr chunks k) a.n ∷ []))
        ∙ ap (after (start image chunks memory k a.answers)) (sym (keys_more image (chunk_nr chunks k) a.n)))) in
        let inside : a.n + 1 ≤ 2 * (chunk_nr chunks k).size = within (chunk_nr chunks k) place a.n less in
        let said : a.answers ++ awaits image (chunk_nr chunks k) 0 (2 * ((a.n + 1) / 2)) ≡ (a.answers ++ awaits image (chunk_nr chunks k) 0 (2 * (a.n / 2))) ++ t.text =
        sym (answered_at image chunks memory k (a.n + 1) a.answers known below inside) ∙ (ap (λ (f : Filling). f.answers) (sym now) ∙ (t.answers
        ∙ ap (λ list. list ++ t.text) (ap (λ (f : Filling). f.answers) a.stub_is ∙ answered_at image chunks memory k a.n a.answers known below (omega (arith, inside))))) in
        let text : awaits image (chunk_nr chunks k) 0 (2 * ((a.n + 1) / 2)) ≡ awaits image (chunk_nr chunks k) 0 (2 * (a.n / 2)) ++ t.text =
        append_cancel_left a.answers (awaits image (chunk_nr chunks k) 0 (2 * ((a.n + 1) / 2))) (awaits image (chunk_nr chunks k) 0 (2 * (a.n / 2)) ++ t.text) (said ∙ append_assoc a.answers (awaits image (chunk_nr chunks k) 0 (2 * (a.n / 2))) t.text) in
        let order = a.order in record {
          answers = a.answers;
          n = a.n + 1;
          few = omega (arith, less);
          stub_is = now;
          keys = tails both;
          order = omega (arith, order);
          less = a.less;
          text = ap (λ up. up ++ t.text) a.text ∙ grown image (chunk_nr chunks k) place (2 * (a.n / 2)) (2 * ((a.n + 1) / 2)) t.text order (halves a.n) text;
        }
      where
        within : (c : Chunk) (place n : ℕ) → n < sent_at duplex c place → n + 1 ≤ 2 * c.size
        within c place n less = let all = sent_within duplex c place in omega (arith, less, all)

        halves : (n : ℕ) → 2 * (n / 2) ≤ 2 * ((n + 1) / 2)
        halves n = omega arith

stands_takes : (duplex : Duplex) (image : Image) (chunks : List Chunk) (memory : List ℕ) (phase : Phase) (k : ℕ) (x y : Cable) → Known image chunks memory → Stands duplex image chunks memory phase k x → Takes x y → Stands duplex image chunks memory phase k y
stands_takes duplex image chunks memory Settle k x y known s t = absurd s
stands_takes duplex image chunks memory (Answer place) k x y known s t = (s.0, amidst_takes duplex image chunks memory k place x y known s.0 s.1 t)
stands_takes duplex image chunks memory Leave k x y known s t = absurd s
stands_takes duplex image chunks memory (Ended Complete) k x y known s t = absurd (clash x.down t.rest t.c s.1 t.first)
stands_takes duplex image chunks memory (Ended Broken) k x y known s t = absurd s

stands_times : (duplex : Duplex) (image : Image) (chunks : List Chunk) (memory : List ℕ) (phase : Phase) (k n : ℕ) (x y : Cable) → Known image chunks memory → Stands duplex image chunks memory phase k x → Times Takes n x y → Stands duplex image chunks memory phase k y
stands_times duplex image chunks memory phase k zero x y known s same = subst (Stands duplex image chunks memory phase k) (sym same) s
stands_times duplex image chunks memory phase k (suc n) x y known s (z, t, more) = stands_times duplex image chunks memory phase k n z y known (stands_takes duplex image chunks memory phase k x z known s t) more

-- ---- a thing heard, and what is sent on it

abbrev Goes : Image → List Chunk → List ℕ → ExchangeStep → Cable → Type 0
Goes image chunks memory s v = Stands s.next.duplex image chunks memory s.next.phase s.next.done (record v { down = v.down ++ s.keys })

goes_listen : (image : Image) (chunks : List Chunk) (memory : List ℕ) (e : Exchange) (phase : Phase) (v : Cable) → Stands e.duplex image chunks memory phase e.done v → Goes image chunks memory (listens e phase) v
goes_listen image chunks memory e phase v s = subst (λ down. Stands e.duplex image chunks memory phase e.done (record v { down = down })) (sym (append-nil v.down)) s

goes_next : (image : Image) (chunks : List Chunk) (memory : List ℕ) (e : Exchange) (v : Cable) → Known image chunks memory → e.done ≤ length chunks → v.down ≡ [] → v.up ≡ [] → IsAt image chunks memory e.done v.machine →
    Goes image chunks memory (next_chunk image chunks e) v
goes_next image chunks memory e v known within none silent (answers, is) =
    on_step (λ s. Goes image chunks memory s v) (nat_lt e.done (length chunks)) _ (listens e (Ended Complete))
    (λ less. let low = below e.done (length chunks) less in (
      low,
      record {
        answers = answers;
        n = 0;
        few = omega arith;
        stub_is = is;
        keys = ap (λ (down : List ℕ). down ++ chunk_keys image (chunk_nr chunks e.done) (sent_at e.duplex (chunk_nr chunks e.done) 0)) none
            ∙ ap (keys_from image (chunk_nr chunks e.done) 0) (off (sent_at e.duplex (chunk_nr chunks e.done) 0));
        order = omega arith;
        less = (let some = (known.inside e.done low).0 in omega (arith, some));
        text = silent;
      },
    ))
    (λ over. goes_listen image chunks memory e (Ended Complete) v ((let more = not_below e.done (length chunks) over in omega (arith, within, more)), none, silent, (answers, is)))
  where
    off : (n : ℕ) → n ≡ n - 0
    off n = omega arith

answer_heard : (image : Image) (chunks : List Chunk) (memory : List ℕ) (e : Exchange) (place c : ℕ) (rest : List ℕ) (x : Cable) → Known image chunks memory → e.done < length chunks → Amidst e.duplex image chunks memory e.done place x → x.up ≡ c ∷ rest →
    Goes image chunks memory (advance image chunks (record e { phase = Answer place }) (Got c)) (record x { up = rest })
answer_heard image chunks memory e place c rest x known below a first = elim (next_or place (2 * (a.n / 2))) [
  | inr none ↦ absurd (clash x.up rest c (a.text ∙ no_answers image (chunk_nr chunks e.done) place (2 * (a.n / 2)) none) first)
  | inl some ↦ elim (next_or (place + 1) (2 * (chunk_nr chunks e.done).size)) [
    | inl more ↦ subst (λ s. Goes image chunks memory s (record x { up = rest })) (sym (goes_on image chunks e place c (is some) more)) (ahead some more)
    | inr last ↦ subst (λ s. Goes image chunks memory s (record x { up = rest })) (sym (ends_chunk image chunks e place c (is some) (end last))) (whole some last)
  ]
]
  where
    both : place < 2 * (a.n / 2) → c ∷ rest ≡ answer_at image (chunk_nr chunks e.done) place ∷ awaits image (chunk_nr chunks e.done) (place + 1) (2 * (a.n / 2) - (place + 1))
    both some = sym first ∙ (a.text ∙ awaits_first image (chunk_nr chunks e.done) place (2 * (a.n / 2)) some)

    is : place < 2 * (a.n / 2) → c ≡ answer_at image (chunk_nr chunks e.done) place
    is some = heads (both some)

    end : 2 * (chunk_nr chunks e.done).size ≤ place + 1 → place + 1 ≡ 2 * (chunk_nr chunks e.done).size
    end last = let less = a.less in omega (arith, last, less)

    ahead : place < 2 * (a.n / 2) → place + 1 < 2 * (chunk_nr chunks e.done).size → Goes image chunks memory (sends_on image (chunk_nr chunks e.done) (record e { phase = Answer place }) place) (record x { up = rest })
    ahead some more =
        let from : ℕ = sent_at e.duplex (chunk_nr chunks e.done) place in
        let to : ℕ = sent_at e.duplex (chunk_nr chunks e.done) (place + 1) in
        let rises : sent_at e.duplex (chunk_nr chunks e.done) place ≤ sent_at e.duplex (chunk_nr chunks e.done) (place + 1) = sent_rises e.duplex (chunk_nr chunks e.done) place in
        let few = a.few in (
          below,
          record {
            answers = a.answers;
            n = a.n;
            few = omega (arith, few, rises);
            stub_is = a.stub_is;
            keys = ap (λ list. list ++ keys_from image (chunk_nr chunks e.done) from (to - from)) a.keys ∙ keys_through image (chunk_nr chunks e.done) a.n from to few rises;
            order = omega (arith, some);
            less = more;
            text = tails (both some);
          },
        )

    whole : place < 2 * (a.n / 2) → 2 * (chunk_nr chunks e.done).size ≤ place + 1 → Goes image chunks memory (next_chunk image chunks (with_chunk chunks (record e { phase = Answer place }))) (record x { up = rest })
    whole some last =
        let few = a.few in
        let full : a.n ≡ 2 * (chunk_nr chunks e.done).size = filled (chunk_nr chunks e.done) place a.n few some last in
        goes_next image chunks memory (with_chunk chunks (record e { phase = Answer place })) (record x { up = rest }) known (omega (arith, below))
        (a.keys ∙ no_keys image (chunk_nr chunks e.done) a.n (sent_at e.duplex (chunk_nr chunks e.done) place) (none_left (chunk_nr chunks e.done) place a.n full))
        (tails (both some) ∙ no_answers image (chunk_nr chunks e.done) (place + 1) (2 * (a.n / 2)) (no_more (chunk_nr chunks e.done).size place a.n full last))
        (a.answers ++ told_text image (chunk_nr chunks e.done).address (chunk_nr chunks e.done).size, a.stub_is ∙ (ap (λ n. after (start image chunks memory e.done a.answers) (chunk_keys image (chunk_nr chunks e.done) n)) full ∙ whole_at image chunks memory e.done a.answers known below))
      where
        filled : (c : Chunk) (place n : ℕ) → n ≤ sent_at e.duplex c place → place < 2 * (n / 2) → 2 * c.size ≤ place + 1 → n ≡ 2 * c.size
        filled c place n few some last = let all = sent_within e.duplex c place in omega (arith, few, some, last, all)

        none_left : (c : Chunk) (place n : ℕ) → n ≡ 2 * c.size → sent_at e.duplex c place ≤ n
        none_left c place n full = let all = sent_within e.duplex c place in omega (arith, full, all)

        no_more : (s place n : ℕ) → n ≡ 2 * s → 2 * s ≤ place + 1 → 2 * (n / 2) ≤ place + 1
        no_more s place n full last = omega (arith, full, last)

-- nothing is under way in neither direction: that cannot be in the middle of a chunk
never_still : (duplex : Duplex) (image : Image) (chunks : List Chunk) (memory : List ℕ) (k place : ℕ) (x : Cable) → Amidst duplex image chunks memory k place x → x.down ≡ [] → x.up ≡ [] → ⊥
never_still duplex image chunks memory k place x a none silent = elim (next_or a.n (sent_at duplex (chunk_nr chunks k) place)) [
  | inl less ↦ clash x.down _ _ none (a.keys ∙ keys_first image (chunk_nr chunks k) a.n (sent_at duplex (chunk_nr chunks k) place) less)
  | inr all ↦ elim (next_or place (2 * (a.n / 2))) [
    | inl some ↦ clash x.up _ _ silent (a.text ∙ awaits_first image (chunk_nr chunks k) place (2 * (a.n / 2)) some)
    | inr heard ↦ impossible (chunk_nr chunks k) place a.n all heard a.less
  ]
]
  where
    impossible : (c : Chunk) (place n : ℕ) → sent_at duplex c place ≤ n → 2 * (n / 2) ≤ place → place < 2 * c.size → ⊥
    impossible c place n all heard less = let reaches = sent_reaches duplex c place in omega (arith, all, heard, less, reaches)

got : (image : Image) (chunks : List Chunk) (memory : List ℕ) (e : Exchange) (phase : Phase) (c : ℕ) (rest : List ℕ) (x : Cable) → Known image chunks memory → Stands e.duplex image chunks memory phase e.done x → x.up ≡ c ∷ rest →
    Goes image chunks memory (advance image chunks (record e { phase = phase }) (Got c)) (record x { up = rest })
got image chunks memory e Settle c rest x known s first = absurd s
got image chunks memory e (Answer place) c rest x known s first = answer_heard image chunks memory e place c rest x known s.0 s.1 first
got image chunks memory e Leave c rest x known s first = absurd s
got image chunks memory e (Ended Complete) c rest x known s first = absurd (clash x.up rest c s.2 first)
got image chunks memory e (Ended Broken) c rest x known s first = absurd s

quiet : (image : Image) (chunks : List Chunk) (memory : List ℕ) (e : Exchange) (phase : Phase) (x : Cable) → Known image chunks memory → Stands e.duplex image chunks memory phase e.done x → x.down ≡ [] → x.up ≡ [] →
    Goes image chunks memory (advance image chunks (record e { phase = phase }) Quiet) x
quiet image chunks memory e Settle x known s none silent = absurd s
quiet image chunks memory e (Answer place) x known s none silent = absurd (never_still e.duplex image chunks memory e.done place x s.1 none silent)
quiet image chunks memory e Leave x known s none silent = absurd s
quiet image chunks memory e (Ended Complete) x known s none silent = goes_listen image chunks memory (record e { phase = Ended Complete }) (Ended Complete) x s
quiet image chunks memory e (Ended Broken) x known s none silent = absurd s

hears : (image : Image) (chunks : List Chunk) (memory : List ℕ) (e : Exchange) (what : Heard) (x v : Cable) → Known image chunks memory → Stands e.duplex image chunks memory e.phase e.done x → Gives x what v → Goes image chunks memory (advance image chunks e what) v
hears image chunks memory e (Got c) x v known s (rest, first, now) = subst (Goes image chunks memory (advance image chunks e (Got c))) (sym now) (got image chunks memory e e.phase c rest x known s first)
hears image chunks memory e Quiet x v known s (none, silent, now) = subst (Goes image chunks memory (advance image chunks e Quiet)) (sym now) (quiet image chunks memory e e.phase x known s none silent)

-- ---- a whole run

run : (image : Image) (chunks : List Chunk) (memory : List ℕ) (things : List Heard) (e : Exchange) (x y : Cable) → Known image chunks memory → Stands e.duplex image chunks memory e.phase e.done x → Passes x (dialogue image chunks e things) y →
    Stands (led image chunks e things).duplex image chunks memory (led image chunks e things).phase (led image chunks e things).done y
run image chunks memory [] e x y known s (n, times) = stands_times e.duplex image chunks memory e.phase e.done n x y known s times
run image chunks memory (what ∷ things) e x y known s (z, v, (n, times), gives, passes) =
    let there = stands_times e.duplex image chunks memory e.phase e.done n x z known s times in
    let next : ExchangeStep = advance image chunks e what in
    run image chunks memory things next.next (record v { down = v.down ++ next.keys }) y known (hears image chunks memory e what z v known there gives) (passing_keys Takes next.keys (dialogue image chunks next.next things) v y passes)

-- nothing is taken where nothing is under way
still_takes : (n : ℕ) (x y : Cable) → x.down ≡ [] → Times Takes n x y → y ≡ x
still_takes zero x y none same = same
still_takes (suc n) x y none (z, t, more) = absurd (clash x.down t.rest t.c none t.first)

first_heard : (image : Image) (chunks : List Chunk) (memory : List ℕ) (from : ℕ) (duplex : Duplex) (what : Heard) (v : Cable) → Known image chunks memory → Gives (still memory chunks) what v → Goes image chunks memory (advance image chunks (begun from duplex) what) v
first_heard image chunks memory from duplex (Got c) v known (rest, first, now) = absurd (clash [] rest c refl first)
first_heard image chunks memory from duplex Quiet v known (none, silent, now) =
    subst (Goes image chunks memory (next_chunk image chunks (begun from duplex))) (sym now) (goes_next image chunks memory (begun from duplex) (still memory chunks) known (omega arith) refl refl ([], refl))

-- ---- the law

on_its_way : (duplex : Duplex) (image : Image) (chunks : List Chunk) (memory : List ℕ) (phase : Phase) (k : ℕ) (y : Cable) → Stands duplex image chunks memory phase k y → IsOnItsWay phase
on_its_way duplex image chunks memory Settle k y s = tt
on_its_way duplex image chunks memory (Answer place) k y s = tt
on_its_way duplex image chunks memory Leave k y s = absurd s
on_its_way duplex image chunks memory (Ended Complete) k y s = tt
on_its_way duplex image chunks memory (Ended Broken) k y s = absurd s

is_complete : (duplex : Duplex) (image : Image) (chunks : List Chunk) (memory : List ℕ) (phase : Phase) (k : ℕ) (y : Cable) → Stands duplex image chunks memory phase k y → y.down ≡ [] → y.up ≡ [] → (phase ≡ Ended Complete) × (k ≡ length chunks) × IsAt image chunks memory k y.machine
is_complete duplex image chunks memory Settle k y s none silent = absurd s
is_complete duplex image chunks memory (Answer place) k y s none silent = absurd (never_still duplex image chunks memory k place y s.1 none silent)
is_complete duplex image chunks memory Leave k y s none silent = absurd s
is_complete duplex image chunks memory (Ended Complete) k y s none silent = (refl, s.0, s.3)
is_complete duplex image chunks memory (Ended Broken) k y s none silent = absurd s

goes_well : (plan : PlanValue) (from : ℕ) (duplex : Duplex) (chunks : List Chunk) (memory : List ℕ) (things : List Heard) (y : Cable) → AreChunks plan from chunks → Known plan.image chunks memory →
    Passes (still memory chunks) (dialogue plan.image chunks (begun from duplex) things) y → GoesWell plan chunks memory things (led plan.image chunks (begun from duplex) things) y
goes_well plan from duplex chunks memory [] y are known passes = record { on_its_way = tt; all_in = λ some none silent. absurd (omega (arith, some)) }
goes_well plan from duplex chunks memory (what ∷ things) y are known (z, v, (n, times), gives, passes) =
    let image : Image = plan.image in
    let same : z ≡ still memory chunks = still_takes n (still memory chunks) z refl times in
    let next : ExchangeStep = advance plan.image chunks (begun from duplex) what in
    let s = run plan.image chunks memory things next.next (record v { down = v.down ++ next.keys }) y known
    (first_heard plan.image chunks memory from duplex what v known (subst (λ x. Gives x what v) same gives)) (passing_keys Takes next.keys (dialogue plan.image chunks next.next things) v y passes) in
    let e : Exchange = led plan.image chunks next.next things in record {
      on_its_way = on_its_way e.duplex plan.image chunks memory e.phase e.done y s;
      all_in = λ some none silent.
          let c = is_complete e.duplex plan.image chunks memory e.phase e.done y s none silent in
          let now : y.machine.memory ≡ all_written plan.image chunks memory = ap (λ (f : Filling). f.memory) c.2.1 ∙ (ap (mems plan.image chunks memory) c.1 ∙ mems_all plan.image chunks memory) in record {
            complete = c.0;
            all = c.1;
            holds = subst (Holds plan.image chunks memory (length chunks)) (sym now) (record {
              size = all_length plan.image chunks memory;
              stand = λ k below b inside_k. some_is _ _ ((are.each k below).bytes b inside_k) (sym (all_in plan.image chunks memory k b known.small known.wide known.inside below inside_k (chunks_apart plan from chunks are)));
              others = λ b out. all_other plan.image chunks memory b known.small known.wide out;
            });
          };
    }

pub clean_lines_bring_all_in : CleanLinesBringAllIn
clean_lines_bring_all_in plan from duplex chunks memory things y are wide room passes =
    goes_well plan from duplex chunks memory things y are (record { small = told_small plan are.sound; wide = wide; inside = λ k below. ((are.each k below).some, room k below) }) passes
