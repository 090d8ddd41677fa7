-- What a call asked and was answered stands in what it has taken, at the place of its request.
use Rattle.std.proofs.Common.{◌≡◌, ℕ, Bool, true, false, cond, List, [], ◌∷◌, ◌++◌, Option, Some, None, refl, sym, ◌∙◌, ap, subst, ◌⊎◌, inl, inr, append_assoc}
use Rattle.role_steps.proofs.of_plain_facts.Options.{some_same}
use Rattle.role_steps.proofs.of_plain_facts.Tests.{true_false}
use Rattle.locus_ids.specs.declared.config.Config.{Config}
use Rattle.locus_ids.specs.declared.ids.CallId.{CallId}
use Rattle.locus_ids.specs.declared.ids.EpochId.{EpochId}
use Rattle.locus_ids.specs.declared.ids.FileId.{FileId}
use Rattle.locus_ids.specs.declared.ids.Mode.{Mode}
use Rattle.locus_ids.specs.declared.ids.Serial.{Serial}
use Rattle.locus_ids.specs.declared.ids.Stamp.{Stamp}
use Rattle.trace_book.specs.Same.{same_call}
use Rattle.trace_book.specs.declared.operation.Op.{Op}
use Rattle.trace_book.specs.declared.operation.Outcome.{Outcome}
use Rattle.trace_book.specs.declared.operation.What.{What}
use Rattle.trace_book.specs.declared.record.Record.TheVariants as says
use Rattle.call_rules.specs.declared.answer.Answer.{Answer}
use Rattle.call_rules.specs.declared.want.Want.{Want}
use Rattle.call_rules.specs.declared.want.Want.TheVariants as want
use Rattle.role_steps.specs.Views.{Told, LooksAgain, Shown, Takes}
use Rattle.the_run.specs.Worlds.{Line}
use Rattle.tree_model.specs.Calls.{granted_to}
use Rattle.tree_model.specs.Tree.{kept_in}
use Rattle.tree_laws.specs.of_lawful_trace.Progress.{Answers, answers, granted_answer, outcome_answer, wants_after, wants_next}
use Rattle.tree_laws.specs.of_lawful_trace.Tables.{call_of_act, has_named, unless_named, use_number, uses_of}
use Rattle.tree_laws.specs.of_lawful_trace.TreeRows.{is_open_of}
use Rattle.tree_laws.specs.Printed.{entries, onto_entries}
use Rattle.tree_laws.specs.Calls.{Asks, Waits, heard, is_request, log, script, tries}
use Rattle.tree_laws.specs.Following.{IsFollowed, MayTell}
use Rattle.tree_laws.specs.Past.{ActRecord, GrantRecord, Printed, WasDone, WasGranted, WasNamed}
use Rattle.tree_laws.specs.Serials.{asked_now, is_open_want}
use Rattle.tree_laws.proofs.Asking.{Turns, not_longer, waits_stays}
use Rattle.tree_laws.proofs.Awaiting.{by_own, by_owner, last_same}
use Rattle.tree_laws.proofs.Hearing.{Hears, asking_named, hears, wants_as_asked}
use Rattle.tree_laws.proofs.Names.{same_call_own}
use Rattle.tree_laws.proofs.Owners.{named_more}
use Rattle.tree_laws.proofs.Scripts.{script_stays}
use Rattle.tree_laws.proofs.Serials.{asks_opens}
use Rattle.tree_laws.proofs.Orders.ProcessCurrent.{same_or_turns}
use Rattle.tree_laws.proofs.Orders.ProcessOnce.{GrantsNow, granted_split}

abbrev With : ℕ → Told → List Line → List Line
With n x older = record { number = n; told = x } ∷ older

-- it waits after these answers, or was taken after them
abbrev pub IsPlaced : Config → CallId → Answers → Answer → List Line → Type 0
IsPlaced c d before given t = ((log t d ≡ before) × Waits c t d given) ⊎ ((after : Answers) × (log t d ≡ before ++ given ∷ after))

-- the call asked something after these answers and was given this
pub record Placed (c : Config) (t : List Line) (d : CallId) (Q : Want → Answer → Type 0) : Type 0 where
  pub before : Answers
  pub given : Answer
  pub asked : Want
  pub script_is : script c (entries t) d None before ≡ asked
  pub request : is_request asked ≡ true
  pub no_look : (f : FileId) (w : What) → asked ≡ want.Look f w → ⊥
  pub fits : Q asked given
  pub place : IsPlaced c d before given t

pub placed_more : (c : Config) (n : ℕ) (x : Told) (older : List Line) (d : CallId) (Q : Want → Answer → Type 0) → IsFollowed c older → MayTell c older x → Placed c older d Q → Placed c (With n x older) d Q
placed_more c n x older d Q h may k = record {
  before = k.before;
  given = k.given;
  asked = k.asked;
  script_is = script_stays c n x older d None k.before h may (asking_named c (entries older) d None k.before k.asked k.script_is k.request) ∙ k.script_is;
  request = k.request;
  no_look = k.no_look;
  fits = k.fits;
  place = over k.place (same_or_turns n x older d);
}
  where
    taken : (s : ℕ) (it : CallId) (request times : ℕ) (a : Answer) → it ≡ d → log (With n (Takes s it request times a) older) d ≡ log older d ++ a ∷ []
    taken s it request times a is = ap (λ (b : Bool). cond b (log older d ++ a ∷ []) (log older d)) (subst (λ (y : CallId). same_call it y ≡ true) is (same_call_own it))

    turn : (y : Told) → MayTell c older y → Turns y d → IsPlaced c d k.before k.given older → IsPlaced c d k.before k.given (With n y older)
    turn (Takes s it request times a) m is (inl p) = inr ([], taken s it request times a is ∙ (ap (λ (xs : Answers). xs ++ a ∷ []) p.0 ∙ ap (λ (b : Answer). k.before ++ b ∷ []) (last_same (log older d) (log older d) a k.given (sym (subst (λ (z : CallId). Waits c older z a) is m.answer) ∙ p.1))))
    turn (Takes s it request times a) m is (inr p) = inr (p.0 ++ a ∷ [], taken s it request times a is ∙ (ap (λ (xs : Answers). xs ++ a ∷ []) p.1 ∙ append_assoc k.before (k.given ∷ p.0) (a ∷ [])))
    turn (LooksAgain s it request times) m is (inl p) = absurd (k.no_look m.file m.what (sym (subst (λ (xs : Answers). script c (entries older) d None xs ≡ k.asked) (sym p.0) k.script_is) ∙ subst (λ (z : CallId). script c (entries older) z None (log older z) ≡ want.Look m.file m.what) is m.looks))
    turn (LooksAgain s it request times) m is (inr p) = inr p
    turn _ m is p = absurd is

    over : IsPlaced c d k.before k.given older → ((log (With n x older) d ≡ log older d) × (tries (With n x older) d ≡ tries older d)) ⊎ Turns x d → IsPlaced c d k.before k.given (With n x older)
    over p (inr is) = turn x may is p
    over (inr p) (inl s) = inr (p.0, s.0 ∙ p.1)
    over (inl p) (inl s) = waits (waits_stays c n x older d k.given may p.1)
      where
        waits : Waits c (With n x older) d k.given ⊎ Turns x d → IsPlaced c d k.before k.given (With n x older)
        waits (inl w) = inl (s.0 ∙ p.0, w)
        waits (inr is) = turn x may is (inl p)

-- where nothing waits it was taken
pub record Taken (c : Config) (t : List Line) (d : CallId) (Q : Want → Answer → Type 0) : Type 0 where
  pub before : Answers
  pub given : Answer
  pub after : Answers
  pub asked : Want
  pub script_is : script c (entries t) d None before ≡ asked
  pub fits : Q asked given
  pub log_is : log t d ≡ before ++ given ∷ after

pub taken_so : (c : Config) (t : List Line) (d : CallId) (Q : Want → Answer → Type 0) → heard c t d ≡ log t d → Placed c t d Q → Taken c t d Q
taken_so c t d Q clear k = over k.place
  where
    over : IsPlaced c d k.before k.given t → Taken c t d Q
    over (inl p) = absurd (not_longer (heard c t d) (log t d) k.given clear p.1)
    over (inr p) = record { before = k.before; given = k.given; after = p.0; asked = k.asked; script_is = k.script_is; fits = k.fits; log_is = p.1 }

-- ---- opens ----

-- an open was asked of this mode and file, and granted so
abbrev pub GrantedSo : Mode → FileId → Serial → Want → Answer → Type 0
GrantedSo m f i w a = (is_open_of m f w ≡ true) × ((stamp : Option Stamp) × (stamps : List Stamp) × (a ≡ granted_answer m i f stamp stamps))

look_opens_none : (f : FileId) (w : What) (v : Want) → v ≡ want.Look f w → is_open_want v ≡ true → ⊥
look_opens_none f w v e k = true_false (sym k ∙ ap is_open_want e)

pub granted_placed : (c : Config) (t : List Line) → IsFollowed c t → (e : EpochId) (d : CallId) (request : ℕ) (i : Serial) (m : Mode) (f : FileId) (stamp : Option Stamp) (ss : ℕ) → WasGranted t e d request i m f stamp ss → Placed c t d (GrantedSo m f i)
granted_placed c [] h e d request i m f stamp ss was = absurd was
granted_placed c (y ∷ older) h e d request i m f stamp ss (inr was) = placed_more c y.number y.told older d (GrantedSo m f i) h.1 h.0 (granted_placed c older h.1 e d request i m f stamp ss was)
granted_placed c (y ∷ older) h e d request i m f stamp ss (inl now) = over y.told h.0 now
  where
    over : (x : Told) → MayTell c older x → Printed (GrantRecord e d request i m f stamp ss) older x → Placed c (With y.number x older) d (GrantedSo m f i)
    over (Shown (says.Grant at call number inst md file on place)) may p = subst (λ (z : CallId). Placed c (With y.number it older) z (GrantedSo m f i)) p.call_is
        (subst (λ (z : Mode). Placed c (With y.number it older) call (GrantedSo z f i)) p.mode_is
        (subst (λ (z : FileId). Placed c (With y.number it older) call (GrantedSo md z i)) p.file_is
        (subst (λ (z : Serial). Placed c (With y.number it older) call (GrantedSo md file z)) p.serial_is own)))
      where
        it : Told
        it = Shown (says.Grant at call number inst md file on place)

        asks : Asks c older call may.in_time.opens.asks.wanted
        asks = may.in_time.opens.asks.asks

        opens : is_open_want (asked_now c older call) ≡ true
        opens = asks_opens c older at call number inst.serial may.in_time.opens.asked may.in_time.opens.it may.in_time.opens.asks

        answered : answers c (entries older) call ≡ log older call
        answered = by (hears c older call h.1)
          where
            by : Hears c older call → answers c (entries older) call ≡ log older call
            by (inl e) = e ∙ asks.nothing_waits
            by (inr l) = absurd (look_opens_none l.file l.what (asked_now c older call) l.looks opens)

        wanted : wants_next c (entries older) call ≡ may.in_time.opens.asks.wanted
        wanted = ap (wants_after c (entries older) call) answered ∙ wants_as_asked c (entries older) call (log older call) may.in_time.opens.asks.wanted asks.asked asks.request

        own : Placed c (With y.number it older) call (GrantedSo md file inst)
        own = record {
          before = log older call;
          given = granted_answer md inst file on (kept_in c (entries older) at file);
          asked = may.in_time.opens.asks.wanted;
          script_is = script_stays c y.number it older call None (log older call) h.1 may (asking_named c (entries older) call None (log older call) may.in_time.opens.asks.wanted asks.asked asks.request) ∙ asks.asked;
          request = asks.request;
          no_look = λ g w q. look_opens_none g w (asked_now c older call) (asks.asked ∙ q) opens;
          fits = (subst (λ (w : Want). is_open_of md file w ≡ true) wanted may.row.opens.asked, (on, kept_in c (entries older) at file, refl));
          place = inl (refl, by_own call call _ (heard c older call) refl ∙ ap (λ (xs : Answers). xs ++ granted_answer md inst file on (kept_in c (entries older) at file) ∷ []) asks.nothing_waits);
        }
    over (Shown r) may p = absurd p
    over x may p = absurd p

-- ---- operations ----

abbrev pub DoneSo : Serial → Op → Want → Answer → Type 0
DoneSo i o w a = w ≡ want.Do i o

-- an operation that was done on what was granted to a call that no descriptor has named was asked by it
pub done_placed : (c : Config) (t : List Line) → IsFollowed c t → ((older : List Line) → IsFollowed c older → (e : EpochId) (i : Serial) (n : ℕ) (o : Op) (r : Outcome) → WasDone older e i n o r → WasNamed older e i) →
    (e : EpochId) (d : CallId) (i : Serial) (n : ℕ) (o : Op) (r : Outcome) → granted_to (entries t) e i ≡ Some d → has_named (entries t) d ≡ false → WasDone t e i n o r → Placed c t d (DoneSo i o)
done_placed c [] h named e d i n o r granted unnamed was = absurd was
done_placed c (y ∷ older) h named e d i n o r granted unnamed (inr was) = placed_more c y.number y.told older d (DoneSo i o) h.1 h.0 (done_placed c older h.1 named e d i n o r (before (granted_split c y.number y.told older e i d h.0 granted)) (still y.told unnamed) was)
  where
    before : (granted_to (entries older) e i ≡ Some d) ⊎ GrantsNow c older e i d → granted_to (entries older) e i ≡ Some d
    before (inl k) = k
    before (inr k) = absurd (k.new (named older h.1 e i n o r was))

    still : (x : Told) → has_named (onto_entries y.number x (entries older)) d ≡ false → has_named (entries older) d ≡ false
    still (Shown r) k = at (has_named (entries older) d) refl
      where
        at : (b : Bool) → has_named (entries older) d ≡ b → b ≡ false
        at true q = absurd (true_false (sym (named_more y.number r (entries older) d q) ∙ k))
        at false q = refl
    still _ k = k
done_placed c (y ∷ older) h named e d i n o r granted unnamed (inl now) = over y.told h.0 now granted unnamed
  where
    over : (x : Told) → MayTell c older x → Printed (ActRecord e i n o r) older x → granted_to (onto_entries y.number x (entries older)) e i ≡ Some d → has_named (onto_entries y.number x (entries older)) d ≡ false → Placed c (With y.number x older) d (DoneSo i o)
    over (Shown (says.Act at inst number what gave)) may p granted unnamed = subst (λ (z : Op). Placed c (With y.number it older) d (DoneSo i z)) p.operation_is
        (subst (λ (z : Serial). Placed c (With y.number it older) d (DoneSo z what)) p.serial_is own)
      where
        it : Told
        it = Shown (says.Act at inst number what gave)

        owner : call_of_act (entries older) at inst number ≡ Some d
        owner = ap (unless_named (entries older) (use_number (uses_of (entries older) at inst) number)) (subst (λ (z : EpochId). granted_to (entries older) z inst ≡ Some d) (sym p.epoch_is) (subst (λ (z : Serial). granted_to (entries older) e z ≡ Some d) (sym p.serial_is) granted))
            ∙ ap (λ (b : Bool). cond b (use_number (uses_of (entries older) at inst) number) (Some d)) unnamed

        asks : Asks c older d (want.Do inst what)
        asks = subst (λ (z : CallId). Asks c older z (want.Do inst what)) (some_same may.in_time.call d (sym may.in_time.owner ∙ owner)) may.in_time.asks

        no_look : (f : FileId) (w : What) → want.Do inst what ≡ want.Look f w → ⊥
        no_look f w q = cc

        own : Placed c (With y.number it older) d (DoneSo inst what)
        own = record {
          before = log older d;
          given = outcome_answer gave;
          asked = want.Do inst what;
          script_is = script_stays c y.number it older d None (log older d) h.1 may (asking_named c (entries older) d None (log older d) (want.Do inst what) asks.asked refl) ∙ asks.asked;
          request = refl;
          no_look = no_look;
          fits = refl;
          place = inl (refl, by_owner (call_of_act (entries older) at inst number) d _ (heard c older d) owner ∙ ap (λ (xs : Answers). xs ++ outcome_answer gave ∷ []) asks.nothing_waits);
        }
    over (Shown r) may p granted unnamed = absurd p
    over x may p granted unnamed = absurd p
