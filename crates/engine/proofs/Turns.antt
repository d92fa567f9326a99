-- What a host does on heard things, one list of them after another.
use Rattle.std.proofs.Common.{◌≡◌, ℕ, ◌≤◌, List, [], ◌∷◌, ◌++◌, length, Option, Some, None, inl, inr, refl, arith, ap, sym, ◌∙◌, append-nil, append_assoc, length-append}
use Rattle.std.specs.Prelude.{option_to_list}
use Rattle.host_core.specs.declared.heard.Heard.{Heard}
use Rattle.host_devices.specs.declared.item.Item.{Item}
use Rattle.host_devices.specs.declared.item.Item.TheVariants.{Heard as Came}
use Rattle.host_devices.specs.Dialogue.{LacksKey}
use Rattle.engine.specs.Session.{IsAll, IsDone, Unkept, Unsent}
use Rattle.engine.specs.Stopping.{IsFailure}
use Rattle.engine.specs.Ways.{GoesOn, Ways, dialogue, led, news_of, said_all}
use Rattle.engine.specs.declared.stop.Stop.{Stop}
use Rattle.engine.specs.declared.stop.Cut.TheVariants.{LineFailed, TurnsOver}
use Rattle.engine.specs.declared.stop.Stop.TheVariants.{Ended, KeepFailed, CutOff}
use Rattle.engine.proofs.Fronts.{said_append}

pub led_join : {Host End News : Type 0} (ways : Ways Host End News) (h : Host) (one two : List Heard) → led ways h (one ++ two) ≡ led ways (led ways h one) two
led_join ways h [] two = refl
led_join ways h (heard ∷ one) two = led_join ways (ways.step h heard) one two

pub goes_join : {Host End News : Type 0} (ways : Ways Host End News) (h : Host) (one two : List Heard) → GoesOn ways h one → GoesOn ways (led ways h one) two → GoesOn ways h (one ++ two)
goes_join ways h [] two g more = more
goes_join ways h (heard ∷ one) two g more = (g.0, goes_join ways (ways.step h heard) one two g.1 more)

pub dialogue_join : {Host End News : Type 0} (ways : Ways Host End News) (h : Host) (one two : List Heard) → dialogue ways h (one ++ two) ≡ dialogue ways h one ++ dialogue ways (led ways h one) two
dialogue_join ways h [] two = refl
dialogue_join ways h (heard ∷ one) two =
    ap (λ rest. Came heard ∷ (said_all (ways.keys h heard) ++ rest)) (dialogue_join ways (ways.step h heard) one two)
    ∙ ap (λ rest. Came heard ∷ rest) (sym (append_assoc (said_all (ways.keys h heard)) (dialogue ways (ways.step h heard) one) (dialogue ways (led ways (ways.step h heard) one) two)))

pub news_join : {Host End News : Type 0} (ways : Ways Host End News) (h : Host) (one two : List Heard) → news_of ways h (one ++ two) ≡ news_of ways h one ++ news_of ways (led ways h one) two
news_join ways h [] two = refl
news_join ways h (heard ∷ one) two =
    ap (λ rest. ways.news h heard ++ rest) (news_join ways (ways.step h heard) one two)
    ∙ sym (append_assoc (ways.news h heard) (news_of ways (ways.step h heard) one) (news_of ways (led ways (ways.step h heard) one) two))

-- ---- what was done of them

all_join : {Host End News : Type 0} (ways : Ways Host End News) (h : Host) (one two : List Heard) (said more : List Item) (given later : List News) → IsAll ways h one said given → IsAll ways (led ways h one) two more later →
    IsAll ways h (one ++ two) (said ++ more) (given ++ later)
all_join ways h one two said more given later a b = record {
  said_is = ap (λ front. front ++ more) a.said_is ∙ (ap (λ rest. dialogue ways h one ++ rest) b.said_is ∙ sym (dialogue_join ways h one two));
  given_is = ap (λ front. front ++ later) a.given_is ∙ (ap (λ rest. news_of ways h one ++ rest) b.given_is ∙ sym (news_join ways h one two));
}

-- what was said up to the last turn, and in it
said_join : {Host End News : Type 0} (ways : Ways Host End News) (h : Host) (one first : List Heard) (said more last : List Item) → said ≡ dialogue ways h one → more ≡ dialogue ways (led ways h one) first ++ last →
    said ++ more ≡ dialogue ways h (one ++ first) ++ last
said_join ways h one first said more last a b =
    ap (λ front. front ++ more) a ∙ (ap (λ rest. dialogue ways h one ++ rest) b
    ∙ (sym (append_assoc (dialogue ways h one) (dialogue ways (led ways h one) first) last) ∙ ap (λ front. front ++ last) (sym (dialogue_join ways h one first))))

heard_join : (one two first : List Heard) (last : Heard) → two ≡ first ++ last ∷ [] → one ++ two ≡ (one ++ first) ++ last ∷ []
heard_join one two first last is = ap (λ rest. one ++ rest) is ∙ sym (append_assoc one first (last ∷ []))

unsent_join : {Host End News : Type 0} (ways : Ways Host End News) (h : Host) (one two : List Heard) (said more : List Item) (given later : List News) → IsAll ways h one said given → Unsent ways (led ways h one) two more later →
    Unsent ways h (one ++ two) (said ++ more) (given ++ later)
unsent_join {Host} ways h one two said more given later a b = record {
  first = one ++ b.first;
  last = b.last;
  heard_is = heard_join one two b.first b.last b.heard_is;
  front = b.front;
  key = b.key;
  rest = b.rest;
  keys_are = ap (λ (host : Host). ways.keys host b.last) (led_join ways h one b.first) ∙ b.keys_are;
  said_is = said_join ways h one b.first said more (Came b.last ∷ said_all b.front) a.said_is b.said_is;
  given_is = ap (λ front. front ++ later) a.given_is ∙ (ap (λ rest. news_of ways h one ++ rest) b.given_is ∙ sym (news_join ways h one two));
}

unkept_join : {Host End News : Type 0} (ways : Ways Host End News) (h : Host) (one two : List Heard) (said more : List Item) (given later : List News) → IsAll ways h one said given → Unkept ways (led ways h one) two more later →
    Unkept ways h (one ++ two) (said ++ more) (given ++ later)
unkept_join {Host} ways h one two said more given later a b = record {
  first = one ++ b.first;
  last = b.last;
  heard_is = heard_join one two b.first b.last b.heard_is;
  said_is = said_join ways h one b.first said more (Came b.last ∷ []) a.said_is b.said_is;
  front = b.front;
  item = b.item;
  rest = b.rest;
  news_are = ap (λ (host : Host). ways.news host b.last) (led_join ways h one b.first) ∙ b.news_are;
  given_is = ap (λ front. front ++ later) a.given_is ∙ (ap (λ rest. news_of ways h one ++ rest) b.given_is
      ∙ (sym (append_assoc (news_of ways h one) (news_of ways (led ways h one) b.first) (b.front ++ b.item ∷ [])) ∙ ap (λ front. front ++ (b.front ++ b.item ∷ [])) (sym (news_join ways h one b.first))));
}

pub done_join : {Host End News : Type 0} (ways : Ways Host End News) (stop : Option (Stop End)) (left : ℕ) (h : Host) (one two : List Heard) (said more : List Item) (given later : List News) → IsAll ways h one said given →
    IsDone ways stop left (led ways h one) two more later → IsDone ways stop left h (one ++ two) (said ++ more) (given ++ later)
done_join ways None left h one two said more given later a b = (all_join ways h one two said more given later a b.0, b.1)
done_join ways (Some (Ended end)) left h one two said more given later a b = all_join ways h one two said more given later a b
done_join ways (Some (CutOff TurnsOver)) left h one two said more given later a b = (all_join ways h one two said more given later a b.0, b.1)
done_join ways (Some (CutOff (LineFailed fault))) left h one two said more given later a (inl b) = inl (all_join ways h one two said more given later a b.0, b.1)
done_join ways (Some (CutOff (LineFailed fault))) left h one two said more given later a (inr b) = inr (unsent_join ways h one two said more given later a b)
done_join ways (Some (KeepFailed fault)) left h one two said more given later a b = unkept_join ways h one two said more given later a b

-- a failure with turns to spare
pub done_wider : {Host End News : Type 0} (ways : Ways Host End News) (stop : Stop End) (left more : ℕ) (h : Host) (heard : List Heard) (said : List Item) (given : List News) → IsFailure stop → left ≤ more →
    IsDone ways (Some stop) left h heard said given → IsDone ways (Some stop) more h heard said given
done_wider ways (CutOff (LineFailed fault)) left more h heard said given f le (inl d) = inl (d.0, omega (arith, le, d.1))
done_wider ways (CutOff (LineFailed fault)) left more h heard said given f le (inr d) = inr d
done_wider ways (KeepFailed fault) left more h heard said given f le d = d
done_wider ways (CutOff TurnsOver) left more h heard said given f le d = absurd f
done_wider ways (Ended end) left more h heard said given f le d = absurd f

-- ---- which keys are missing

all_but : {Host End News : Type 0} (ways : Ways Host End News) (h : Host) (heard first : List Heard) (last : Heard) (said : List Item) (front rest : List ℕ) → heard ≡ first ++ last ∷ [] → ways.keys (led ways h first) last ≡ front ++ rest →
    said ≡ dialogue ways h first ++ Came last ∷ said_all front → dialogue ways h heard ≡ said ++ said_all rest
all_but ways h heard first last said front rest are keys is =
    let turn : dialogue ways (led ways h first) (last ∷ []) ≡ (Came last ∷ said_all front) ++ said_all rest =
    ap (λ items. Came last ∷ items) (append-nil (said_all (ways.keys (led ways h first) last)) ∙ (ap said_all keys ∙ said_append front rest)) in
    ap (dialogue ways h) are ∙ (dialogue_join ways h first (last ∷ []) ∙ (ap (λ items. dialogue ways h first ++ items) turn
    ∙ (sym (append_assoc (dialogue ways h first) (Came last ∷ said_all front) (said_all rest)) ∙ ap (λ front. front ++ said_all rest) (sym is))))

pub unsent_keys : {Host End News : Type 0} (ways : Ways Host End News) (h : Host) (heard : List Heard) (said : List Item) (given : List News) (u : Unsent ways h heard said given) → dialogue ways h heard ≡ said ++ said_all (u.key ∷ u.rest)
unsent_keys ways h heard said given u = all_but ways h heard u.first u.last said u.front (u.key ∷ u.rest) u.heard_is u.keys_are u.said_is

pub unkept_keys : {Host End News : Type 0} (ways : Ways Host End News) (h : Host) (heard : List Heard) (said : List Item) (given : List News) (u : Unkept ways h heard said given) →
    dialogue ways h heard ≡ said ++ said_all (ways.keys (led ways h u.first) u.last)
unkept_keys ways h heard said given u = all_but ways h heard u.first u.last said [] (ways.keys (led ways h u.first) u.last) u.heard_is refl u.said_is

-- all that was given, or all but a rear of it
pub unkept_news : {Host End News : Type 0} (ways : Ways Host End News) (h : Host) (heard : List Heard) (said : List Item) (given : List News) (u : Unkept ways h heard said given) → news_of ways h heard ≡ given ++ u.rest
unkept_news ways h heard said given u =
    let last : news_of ways (led ways h u.first) (u.last ∷ []) ≡ (u.front ++ u.item ∷ []) ++ u.rest =
    append-nil (ways.news (led ways h u.first) u.last) ∙ (u.news_are ∙ sym (append_assoc u.front (u.item ∷ []) u.rest)) in
    ap (news_of ways h) u.heard_is ∙ (news_join ways h u.first (u.last ∷ []) ∙ (ap (λ items. news_of ways h u.first ++ items) last
    ∙ (sym (append_assoc (news_of ways h u.first) (u.front ++ u.item ∷ []) u.rest) ∙ ap (λ front. front ++ u.rest) (sym u.given_is))))

-- ---- hosts that send one key a step, at most

pub only_front : {A : Type 0} (o : Option A) (front : List A) (next : A) (rest : List A) → option_to_list o ≡ front ++ next ∷ rest → (o ≡ Some next) × (front ≡ []) × (rest ≡ [])
only_front None [] next rest e = absurd (omega (arith, ap length e))
only_front None (a ∷ front) next rest e = absurd (omega (arith, ap length e))
only_front (Some x) [] next [] e = (ap Some (cc), refl, refl)
only_front (Some x) [] next (b ∷ rest) e = absurd (omega (arith, ap length e))
only_front (Some x) (a ∷ front) next rest e = absurd (omega (arith, ap length e, length-append front (next ∷ rest)))

-- the last key is missing
pub unsent_key : {Host End News : Type 0} (ways : Ways Host End News) (one : Host → Heard → Option ℕ) (h : Host) (heard : List Heard) (said : List Item) (given : List News) → ((h : Host) (heard : Heard) → ways.keys h heard ≡ option_to_list (one h heard))
    → Unsent ways h heard said given → LacksKey (dialogue ways h heard) said
unsent_key ways one h heard said given is u =
    let only = only_front (one (led ways h u.first) u.last) u.front u.key u.rest (sym (is (led ways h u.first) u.last) ∙ u.keys_are) in
    (u.key, unsent_keys ways h heard said given u ∙ ap (λ rest. said ++ said_all (u.key ∷ rest)) only.2)
