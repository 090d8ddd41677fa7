-- An open that was granted or refused, of the request that its call asks still, has its answer waiting.
use Rattle.std.proofs.Common.{◌≡◌, ℕ, ◌+◌, ◌≤◌, Bool, true, false, cond, List, [], ◌∷◌, ◌++◌, length, Option, None, Some, refl, sym, ◌∙◌, ap, subst, arith, ◌⊎◌, inl, inr, length-append}
use Rattle.plain_facts.proofs.Tests.{true_false}
use Rattle.locus_ids.specs.declared.config.Config.{Config}
use Rattle.locus_ids.specs.declared.ids.CallId.{CallId}
use Rattle.locus_ids.specs.declared.ids.EpochId.{EpochId}
use Rattle.locus_ids.specs.declared.ids.FileId.{FileId}
use Rattle.locus_ids.specs.declared.ids.Mode.{Mode}
use Rattle.locus_ids.specs.declared.ids.Mode.TheVariants as mode
use Rattle.locus_ids.specs.declared.ids.Serial.{Serial}
use Rattle.locus_ids.specs.declared.ids.Stamp.{Stamp}
use Rattle.locus_ids.specs.declared.refusal.Refusal.{Refusal}
use Rattle.trace_book.specs.Same.{same_call}
use Rattle.trace_book.specs.declared.operation.What.{What}
use Rattle.trace_book.specs.declared.record.Record.TheVariants as says
use Rattle.call_rules.specs.declared.answer.Answer.{Answer}
use Rattle.call_rules.specs.declared.answer.Answer.TheVariants as answer
use Rattle.call_rules.specs.declared.want.Want.{Want}
use Rattle.call_rules.specs.declared.want.Want.TheVariants as want
use Rattle.role_steps.specs.Views.{Told, Shown, Takes, LooksAgain}
use Rattle.the_run.specs.Worlds.{Line}
use Rattle.tree_model.specs.Tree.{kept_in}
use Rattle.lawful_trace.specs.Progress.{Answers, granted_answer}
use Rattle.tree_laws.specs.Printed.{entries}
use Rattle.tree_laws.specs.Calls.{log, tries, heard, is_request, Waits, request_number}
use Rattle.tree_laws.specs.Following.{MayTell, IsFollowed}
use Rattle.tree_laws.specs.Past.{Was, Printed, WasGranted, GrantRecord, WasRefused, RefusalRecord}
use Rattle.tree_laws.specs.Serials.{asked_now, is_open_want}
use Rattle.tree_laws.proofs.Asking.{Turns, waits_stays}
use Rattle.tree_laws.proofs.Awaiting.{by_own}
use Rattle.tree_laws.proofs.Counting.{asked_same}
use Rattle.tree_laws.proofs.Fresh.{IsNamed}
use Rattle.tree_laws.proofs.Hearing.{asking_named}
use Rattle.tree_laws.proofs.Names.{same_call_own}
use Rattle.tree_laws.proofs.Serials.{asks_opens}
use Rattle.tree_laws.proofs.Orders.ProcessCurrent.{same_or_turns}

abbrev With : ℕ → Told → List Line → List Line
With n x older = record { number = n; told = x } ∷ older

-- an open of the call was answered so, at this request
record AnswersOpen (c : Config) (d : CallId) (request : ℕ) (a : Answer) (older : List Line) (x : Told) : Type 0 where
  shown : (n : ℕ) → (log (With n x older) d ≡ log older d) × (heard c (With n x older) d ≡ log older d ++ a ∷ [])
  request_is : request_number older d ≡ request
  asked : is_open_want (asked_now c older d) ≡ true

abbrev WasOpen : Config → List Line → CallId → ℕ → Answer → Type 0
WasOpen c t d request a = Was (AnswersOpen c d request a) t

open_request : (w : Want) → is_open_want w ≡ true → is_request w ≡ true
open_request (want.Open f m) t = refl
open_request (want.OpenToMend f) t = refl
open_request (want.Make group k sites) t = refl
open_request (want.Look f w) t = refl
open_request (want.Do i o) t = refl
open_request (want.Close i) t = refl
open_request (want.Give r) t = absurd (true_false (sym t))
open_request want.Never t = absurd (true_false (sym t))

open_named : (c : Config) (t : List Line) (d : CallId) → is_open_want (asked_now c t d) ≡ true → IsNamed (entries t) d
open_named c t d k = asking_named c (entries t) d None (log t d) (asked_now c t d) refl (open_request (asked_now c t d) k)

-- the call has come so far
come : (c : Config) (t : List Line) (d : CallId) (request : ℕ) (a : Answer) → WasOpen c t d request a → request ≤ request_number t d
come c [] d request a was = absurd was
come c (x ∷ older) d request a (inl now) = (let s : request_number (With x.number x.told older) d ≡ request = ap (λ (xs : Answers). length xs + 1) (now.shown x.number).0 ∙ now.request_is in omega (arith, s))
come c (x ∷ older) d request a (inr was) = over x.told (come c older d request a was)
  where
    over : (y : Told) → request ≤ request_number older d → request ≤ request_number (With x.number y older) d
    over (Takes s it number k b) le = at (same_call it d)
      where
        more : length (log older d ++ b ∷ []) ≡ length (log older d) + 1
        more = length-append (log older d) (b ∷ [])

        at : (z : Bool) → request ≤ length (cond z (log older d ++ b ∷ []) (log older d)) + 1
        at true = let m : length (log older d ++ b ∷ []) ≡ length (log older d) + 1 = more in let l : request ≤ length (log older d) + 1 = le in omega (arith, m, l)
        at false = le
    over (Shown r) le = le
    over _ le = le

-- its answer waits, and it is asked still
record Stands (c : Config) (t : List Line) (d : CallId) (a : Answer) : Type 0 where
  waits : Waits c t d a
  asked : is_open_want (asked_now c t d) ≡ true

look_opens_none : (f : FileId) (w : What) (v : Want) → v ≡ want.Look f w → is_open_want v ≡ true → ⊥
look_opens_none f w v e k = true_false (sym k ∙ ap is_open_want e)

turn_on : (c : Config) (n : ℕ) (x : Told) (older : List Line) (d : CallId) (request : ℕ) → MayTell c older x → Turns x d → request ≤ request_number older d → (request_number older d ≡ request → is_open_want (asked_now c older d) ≡ true) → request_number (With n x older) d ≡ request → ⊥
turn_on c n (Takes s it number k b) older d request may turn le asked same = over (sym same ∙ ap (λ (z : Bool). length (cond z (log older d ++ b ∷ []) (log older d)) + 1) (subst (λ (y : CallId). same_call it y ≡ true) turn (same_call_own it)))
  where
    more : length (log older d ++ b ∷ []) ≡ length (log older d) + 1
    more = length-append (log older d) (b ∷ [])

    over : request ≡ length (log older d ++ b ∷ []) + 1 → ⊥
    over e = let m : length (log older d ++ b ∷ []) ≡ length (log older d) + 1 = more in let l : request ≤ length (log older d) + 1 = le in omega (arith, m, l, e)
turn_on c n (LooksAgain s it number k) older d request may turn le asked same = look_opens_none may.file may.what (asked_now c older d) (ap (asked_now c older) (sym turn) ∙ may.looks) (asked same)
turn_on c n _ older d request may turn le asked same = turn

stands : (c : Config) (t : List Line) → IsFollowed c t → (d : CallId) (request : ℕ) (a : Answer) → WasOpen c t d request a → request_number t d ≡ request → Stands c t d a
stands c [] h d request a was same = absurd was
stands c (x ∷ older) h d request a (inl now) same = record {
  waits = (now.shown x.number).1 ∙ ap (λ (xs : Answers). xs ++ a ∷ []) (sym (now.shown x.number).0);
  asked = ap is_open_want (asked_same c older x.number x.told d h.1 h.0 (open_named c older d now.asked) (now.shown x.number).0) ∙ now.asked;
}
stands c (x ∷ older) h d request a (inr was) same = over (same_or_turns x.number x.told older d) (λ e. stands c older h.1 d request a was e)
  where
    over : ((log (With x.number x.told older) d ≡ log older d) × (tries (With x.number x.told older) d ≡ tries older d)) ⊎ Turns x.told d → (request_number older d ≡ request → Stands c older d a) → Stands c (With x.number x.told older) d a
    over (inr turn) later = absurd (turn_on c x.number x.told older d request h.0 turn (come c older d request a was) (λ e. (later e).asked) same)
    over (inl k) later = (let s : Stands c older d a = later (sym (ap (λ (xs : Answers). length xs + 1) k.0) ∙ same) in record {
      waits = stays s (waits_stays c x.number x.told older d a h.0 s.waits);
      asked = ap is_open_want (asked_same c older x.number x.told d h.1 h.0 (open_named c older d s.asked) k.0) ∙ s.asked;
    })
      where
        stays : Stands c older d a → Waits c (With x.number x.told older) d a ⊎ Turns x.told d → Waits c (With x.number x.told older) d a
        stays s (inl w) = w
        stays s (inr turn) = absurd (turn_on c x.number x.told older d request h.0 turn (come c older d request a was) (λ e. (later e).asked) same)

-- ---- what records answer ----

granted_open_answer : (c : Config) (older : List Line) (x : Told) (e : EpochId) (d : CallId) (request : ℕ) (i : Serial) (m : Mode) (f : FileId) (stamp : Option Stamp) (ss : ℕ) → (kept : List Stamp) → (m ≡ mode.Mend → ⊥) → MayTell c older x → Printed (GrantRecord e d request i m f stamp ss) older x → AnswersOpen c d request (granted_answer m i f stamp kept) older x
granted_open_answer c older (Shown (says.Grant at call number inst md file on place)) e d request i m f stamp ss kept plain may p = record {
  shown = λ n. (refl, by_own call d _ (heard c older d) p.call_is ∙ (ap (λ (xs : Answers). xs ++ granted_answer md inst file on (kept_in c (entries older) at file) ∷ []) clear ∙ ap (λ (b : Answer). log older d ++ b ∷ []) (opened md on (λ is. plain (sym p.mode_is ∙ is)) ∙ said)));
  request_is = ap (request_number older) (sym p.call_is) ∙ (sym may.in_time.opens.asks.request_is ∙ p.request_is);
  asked = subst (λ (y : CallId). is_open_want (asked_now c older y) ≡ true) p.call_is (asks_opens c older at call number inst.serial may.in_time.opens.asked may.in_time.opens.it may.in_time.opens.asks);
}
  where
    clear : heard c older d ≡ log older d
    clear = subst (λ (y : CallId). heard c older y ≡ log older y) p.call_is may.in_time.opens.asks.asks.nothing_waits

    opened : (k : Mode) (o : Option Stamp) → (k ≡ mode.Mend → ⊥) → granted_answer k inst file o (kept_in c (entries older) at file) ≡ granted_answer k inst file o kept
    opened mode.Mend o other = absurd (other refl)
    opened mode.Read None other = refl
    opened mode.Read (Some s) other = refl
    opened mode.Write o other = refl
    opened mode.Resolve o other = refl
    opened mode.Make o other = refl

    said : granted_answer md inst file on kept ≡ granted_answer m i f stamp kept
    said = ap (λ (k : Mode). granted_answer k inst file on kept) p.mode_is ∙ (ap (λ (j : Serial). granted_answer m j file on kept) p.serial_is ∙ (ap (λ (g : FileId). granted_answer m i g on kept) p.file_is ∙ ap (λ (o : Option Stamp). granted_answer m i f o kept) p.stamp_is))
granted_open_answer c older (Shown (says.Refuse at call number inst md file why)) e d request i m f stamp ss kept plain may p = absurd p
granted_open_answer c older _ e d request i m f stamp ss kept plain may p = absurd p

refused_open_answer : (c : Config) (older : List Line) (x : Told) (e : EpochId) (d : CallId) (request : ℕ) (i : Serial) (m : Mode) (why : Refusal) → MayTell c older x → Printed (RefusalRecord e d request i m why) older x → AnswersOpen c d request (answer.Refused why) older x
refused_open_answer c older (Shown (says.Refuse at call number inst md file reason)) e d request i m why may p = record {
  shown = λ n. (refl, by_own call d _ (heard c older d) p.call_is ∙ (ap (λ (xs : Answers). xs ++ answer.Refused reason ∷ []) clear ∙ ap (λ (b : Refusal). log older d ++ answer.Refused b ∷ []) p.reason_is));
  request_is = ap (request_number older) (sym p.call_is) ∙ (sym may.in_time.opens.asks.request_is ∙ p.request_is);
  asked = subst (λ (y : CallId). is_open_want (asked_now c older y) ≡ true) p.call_is (asks_opens c older at call number inst.serial may.in_time.opens.asked may.in_time.opens.it may.in_time.opens.asks);
}
  where
    clear : heard c older d ≡ log older d
    clear = subst (λ (y : CallId). heard c older y ≡ log older y) p.call_is may.in_time.opens.asks.asks.nothing_waits
refused_open_answer c older _ e d request i m why may p = absurd p

-- what stood then stands so
was_answered : (c : Config) (P : List Line → Told → Type 0) (d : CallId) (request : ℕ) (a : Answer) → ((older : List Line) (x : Told) → MayTell c older x → P older x → AnswersOpen c d request a older x) → (t : List Line) → IsFollowed c t → Was P t → WasOpen c t d request a
was_answered c P d request a f [] h was = absurd was
was_answered c P d request a f (x ∷ older) h (inl now) = inl (f older x.told h.0 now)
was_answered c P d request a f (x ∷ older) h (inr was) = inr (was_answered c P d request a f older h.1 was)

-- an open that was granted, but for a mend's, waits with what its grant tells
pub granted_waits : (c : Config) (t : List Line) → IsFollowed c t → (e : EpochId) (d : CallId) (request : ℕ) (i : Serial) (m : Mode) (f : FileId) (stamp : Option Stamp) (ss : ℕ) (kept : List Stamp) → (m ≡ mode.Mend → ⊥) → WasGranted t e d request i m f stamp ss → request_number t d ≡ request → Waits c t d (granted_answer m i f stamp kept)
granted_waits c t h e d request i m f stamp ss kept plain was same = (stands c t h d request (granted_answer m i f stamp kept) (was_answered c (Printed (GrantRecord e d request i m f stamp ss)) d request (granted_answer m i f stamp kept) (λ older x may p. granted_open_answer c older x e d request i m f stamp ss kept plain may p) t h was) same).waits

-- an open that was refused waits with the refusal
pub refused_waits : (c : Config) (t : List Line) → IsFollowed c t → (e : EpochId) (d : CallId) (request : ℕ) (i : Serial) (m : Mode) (why : Refusal) → WasRefused t e d request i m why → request_number t d ≡ request → Waits c t d (answer.Refused why)
refused_waits c t h e d request i m why was same = (stands c t h d request (answer.Refused why) (was_answered c (Printed (RefusalRecord e d request i m why)) d request (answer.Refused why) (λ older x may p. refused_open_answer c older x e d request i m why may p) t h was) same).waits
