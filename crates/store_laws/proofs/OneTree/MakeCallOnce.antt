-- A call asks one make: what is begun as a make of it is begun under one number.
use Rattle.std.proofs.Common.{◌≡◌, ℕ, Bool, true, false, cond, List, [], ◌∷◌, ◌++◌, append-nil, append_assoc, Option, None, refl, sym, ◌∙◌, ap, subst, inl, inr}
use Rattle.locus_ids.specs.declared.config.Config.{Config}
use Rattle.locus_ids.specs.declared.ids.CallId.{CallId}
use Rattle.locus_ids.specs.declared.ids.EpochId.{EpochId}
use Rattle.locus_ids.specs.declared.ids.FileId.{FileId}
use Rattle.locus_ids.specs.declared.ids.Kind.{Kind}
use Rattle.locus_ids.specs.declared.ids.Serial.{Serial}
use Rattle.locus_ids.specs.declared.sites.Sites.{Sites}
use Rattle.trace_book.specs.Same.{same_call}
use Rattle.trace_book.specs.declared.call.OpenMode.{OpenMode}
use Rattle.trace_book.specs.declared.call.OpenMode.TheVariants as opens
use Rattle.trace_book.specs.declared.record.Record.TheVariants as says
use Rattle.call_rules.specs.declared.answer.Answer.{Answer}
use Rattle.call_rules.specs.declared.want.Want.{Want}
use Rattle.call_rules.specs.declared.want.Want.TheVariants as want
use Rattle.wire_messages.specs.declared.body.Opening.TheVariants as how
use Rattle.role_steps.specs.Requests.{opening_of}
use Rattle.role_steps.specs.Views.{Told, Begins, Shown, Takes}
use Rattle.the_run.specs.Worlds.{Line}
use Rattle.tree_model.specs.Calls.{call_named}
use Rattle.tree_laws.specs.of_lawful_trace.Progress.{Answers}
use Rattle.tree_laws.specs.of_lawful_trace.Tables.{begun}
use Rattle.tree_laws.specs.Printed.{entries}
use Rattle.tree_laws.specs.Calls.{log, script}
use Rattle.tree_laws.specs.Following.{IsFollowed, MayTell}
use Rattle.tree_laws.specs.Instances.{IsOpening}
use Rattle.tree_laws.specs.Serials.{opens_asked, serial_asked}
use Rattle.tree_laws.proofs.Fresh.{IsNamed, calls_are_low, next_is_new, numbered}
use Rattle.tree_laws.proofs.Names.{same_call_eq}
use Rattle.tree_laws.proofs.Scripts.{named_stays, script_stays}
use Rattle.store_laws.specs.OneTree.MakeCallMade.{AsksMake, MakesFor, WasMadeFor}
use Rattle.store_laws.proofs.OneTree.MakeCallOthers.{NotMake}
use Rattle.store_laws.proofs.OneTree.MakeCallScripts.{Making, no_make, script_making}

abbrev With : ℕ → Told → List Line → List Line
With n x older = record { number = n; told = x } ∷ older

-- ---- a make is asked ----

-- the script wants a make in this group
pub record IsMake (w : Want) (group : ℕ) : Type 0 where
  pub kind : Kind
  pub sites : Option Sites
  pub is : w ≡ want.Make group kind sites

pub opening_makes : (c : Config) (w : Want) (f : FileId) (set : Sites) (k : Kind) → IsOpening c w f (how.Make set k) → IsMake w f.group
opening_makes c w f set k o = over w o
  where
    not_open : (m : OpenMode) → how.Make set k ≡ opening_of m → ⊥
    not_open opens.Read e = cc
    not_open opens.Write e = cc
    not_open (opens.Resolve site) e = cc
    not_open opens.Steady e = cc

    not_mend : how.Make set k ≡ how.Mend → ⊥
    not_mend e = cc

    over : (v : Want) → IsOpening c v f (how.Make set k) → IsMake v f.group
    over (want.Make group kd sites) is = record { kind = kd; sites = sites; is = ap (λ (g : ℕ). want.Make g kd sites) (sym is.0) }
    over (want.Open file m) is = absurd (not_open m is.1)
    over (want.OpenToMend file) is = absurd (not_mend is.1)
    over _ is = absurd is

pub asked_make : (c : Config) (t : List Line) (e : EpochId) (d : CallId) (i : Serial) (group : ℕ) (set : Sites) (k : AsksMake c t e d i group set) → IsMake (script c (entries t) d None (log t d)) group
asked_make c t e d i group set k = (let w : IsMake k.asks.wanted k.file.group = opening_makes c k.asks.wanted k.file set k.kind k.asks.opening_is in
    record { kind = w.kind; sites = w.sites; is = k.asks.asks.asked ∙ (w.is ∙ ap (λ (g : ℕ). want.Make g w.kind w.sites) k.group_is) })

-- ---- a make was asked ----

-- the call has asked this make after these answers; it asks it still, or has taken more
record HasAsked (c : Config) (t : List Line) (d : CallId) (i : Serial) : Type 0 where
  us_is : i.us ≡ d.site
  named : IsNamed (entries t) d
  before : Answers
  after : Answers
  group : ℕ
  makes : IsMake (script c (entries t) d None before) group
  log_is : log t d ≡ before ++ after
  serial_is : after ≡ [] → serial_asked c t d ≡ i.serial

asks_now : (c : Config) (t : List Line) (e : EpochId) (d : CallId) (i : Serial) (group : ℕ) (set : Sites) → AsksMake c t e d i group set → HasAsked c t d i
asks_now c t e d i group set k = record {
  us_is = k.user_is;
  named = (k.asks.inside.accepted, k.asks.inside.named);
  before = log t d;
  after = [];
  group = group;
  makes = asked_make c t e d i group set k;
  log_is = sym (append-nil (log t d));
  serial_is = λ e. sym k.asks.serial_is;
}

asked_more : (c : Config) (n : ℕ) (x : Told) (older : List Line) (d : CallId) (i : Serial) → IsFollowed c older → MayTell c older x → HasAsked c older d i → HasAsked c (With n x older) d i
asked_more c n x older d i h may k = over x may
  where
    moved : (y : Told) → MayTell c older y → (after : Answers) → log (With n y older) d ≡ k.before ++ after → (after ≡ [] → serial_asked c (With n y older) d ≡ i.serial) → HasAsked c (With n y older) d i
    moved y m after is serial = record {
      us_is = k.us_is;
      named = (k.named.0, named_stays c n y older d h m k.named ∙ k.named.1);
      before = k.before;
      after = after;
      group = k.group;
      makes = record { kind = k.makes.kind; sites = k.makes.sites; is = script_stays c n y older d None k.before h m k.named ∙ k.makes.is };
      log_is = is;
      serial_is = serial;
    }

    no_end : (xs : Answers) (a : Answer) → xs ++ a ∷ [] ≡ [] → ⊥
    no_end [] a e = cc
    no_end (y ∷ ys) a e = cc

    over : (y : Told) → MayTell c older y → HasAsked c (With n y older) d i
    over (Takes s it request times a) m = at (same_call it d) refl
      where
        at : (b : Bool) → same_call it d ≡ b → HasAsked c (With n (Takes s it request times a) older) d i
        at true e = moved (Takes s it request times a) m (k.after ++ a ∷ []) (ap (λ (b : Bool). cond b (log older d ++ a ∷ []) (log older d)) e ∙ (ap (λ (xs : Answers). xs ++ a ∷ []) k.log_is ∙ append_assoc k.before k.after (a ∷ []))) (λ q. absurd (no_end k.after a q))
        at false e = moved (Takes s it request times a) m k.after (ap (λ (b : Bool). cond b (log older d ++ a ∷ []) (log older d)) e ∙ k.log_is)
            (λ q. ap (λ (b : Bool). cond b (opens_asked c (With n (Takes s it request times a) older) s) (serial_asked c older d)) e ∙ k.serial_is q)
    over (Shown (says.Accept s process call words)) m = at (same_call call d) refl
      where
        at : (b : Bool) → same_call call d ≡ b → HasAsked c (With n (Shown (says.Accept s process call words)) older) d i
        at true e = absurd (next_is_new (entries older) s d (calls_are_low c older h d k.named) (sym (same_call_eq call d e) ∙ numbered c (entries older) s process call words m.row))
        at false e = moved (Shown (says.Accept s process call words)) m k.after k.log_is (λ q. ap (λ (b : Bool). cond b (opens_asked c (With n (Shown (says.Accept s process call words)) older) s) (serial_asked c older d)) e ∙ k.serial_is q)
    over (Shown r) m = moved (Shown r) m k.after k.log_is k.serial_is
    over y m = moved y m k.after k.log_is k.serial_is

has_asked : (c : Config) (t : List Line) → IsFollowed c t → (e : EpochId) (d : CallId) (i : Serial) → WasMadeFor c t e d i → HasAsked c t d i
has_asked c [] h e d i was = absurd was
has_asked c (x ∷ older) h e d i (inr was) = asked_more c x.number x.told older d i h.1 h.0 (has_asked c older h.1 e d i was)
has_asked c (x ∷ older) h e d i (inl now) = over x.told h.0 now
  where
    over : (y : Told) → MayTell c older y → MakesFor c e d i older y → HasAsked c (With x.number y older) d i
    over (Begins s at inst f) may k = asked_more c x.number (Begins s at inst f) older d i h.1 may (asks_now c older e d i f.group k.2.0 k.2.1)
    over y may k = absurd k

-- ---- one make ----

serial_eq : (i j : Serial) → i.us ≡ j.us → i.serial ≡ j.serial → i ≡ j
serial_eq i j p q = λ k. record { us = p k; serial = q k }

-- a call that asks a make was begun no other
pub one_make : (c : Config) (trace : List Line) → IsFollowed c trace → (e : EpochId) (d : CallId) (i j : Serial) (group : ℕ) (set : Sites) → WasMadeFor c trace e d i → AsksMake c trace e d j group set → i ≡ j
one_make c t h e d i j group set was k = over a.after refl
  where
    a : HasAsked c t d i
    a = has_asked c t h e d i was

    now : IsMake (script c (entries t) d None (log t d)) group
    now = asked_make c t e d j group set k

    m : Making (script c (entries t) d None) a.before a.group
    m = script_making c (entries t) (call_named (entries t) d) (begun (entries t) d) a.group a.makes.kind a.makes.sites a.before a.makes.is

    over : (xs : Answers) → a.after ≡ xs → i ≡ j
    over [] q = serial_eq i j (a.us_is ∙ sym k.user_is) (sym (a.serial_is q) ∙ sym k.asks.serial_is)
    over (y ∷ ys) q = absurd (no_make (script c (entries t) d None (log t d)) group now.kind now.sites (subst (λ (xs : Answers). NotMake (script c (entries t) d None xs)) (sym (a.log_is ∙ ap (λ (xs : Answers). a.before ++ xs) q)) (m.once y ys)) now.is)

-- what was begun as makes of a call was begun under one number
pub calls_make_once : (c : Config) (trace : List Line) → IsFollowed c trace → (e : EpochId) (d : CallId) (i j : Serial) → WasMadeFor c trace e d i → WasMadeFor c trace e d j → i ≡ j
calls_make_once c [] h e d i j a b = absurd a
calls_make_once c (x ∷ older) h e d i j (inr a) (inr b) = calls_make_once c older h.1 e d i j a b
calls_make_once c (x ∷ older) h e d i j (inl a) (inl b) = over x.told a b
  where
    over : (y : Told) → MakesFor c e d i older y → MakesFor c e d j older y → i ≡ j
    over (Begins s at inst f) p q = sym p.1 ∙ q.1
    over y p q = absurd p
calls_make_once c (x ∷ older) h e d i j (inl a) (inr b) = over x.told a
  where
    over : (y : Told) → MakesFor c e d i older y → i ≡ j
    over (Begins s at inst f) p = sym (one_make c older h.1 e d j i f.group p.2.0 b p.2.1)
    over y p = absurd p
calls_make_once c (x ∷ older) h e d i j (inr a) (inl b) = over x.told b
  where
    over : (y : Told) → MakesFor c e d j older y → i ≡ j
    over (Begins s at inst f) p = one_make c older h.1 e d i j f.group p.2.0 a p.2.1
    over y p = absurd p
