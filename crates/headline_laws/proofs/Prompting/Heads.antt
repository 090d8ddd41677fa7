-- What an event of a site tells begins with what comes of a call that is accepted, of an answer that is taken, or of an epoch that is
-- left; after that no call is answered but a mend that has just been accepted.
use Rattle.std.proofs.Common.{◌≡◌, ℕ, ◌+◌, Bool, ◌&&◌, not, true, false, List, [], ◌∷◌, ◌++◌, Option, Some, None, refl, sym, subst, ◌⊎◌, inl, inr}
use Rattle.locus_ids.specs.declared.config.Config.{Config}
use Rattle.locus_ids.specs.declared.ids.CallId.{CallId}
use Rattle.locus_ids.specs.declared.sites.Links.{Links}
use Rattle.trace_book.specs.declared.call.Call.{Call}
use Rattle.trace_book.specs.declared.call.Call.TheVariants as call
use Rattle.trace_book.specs.declared.record.Record.{Record}
use Rattle.trace_book.specs.declared.record.Record.TheVariants as says
use Rattle.trace_book.specs.declared.reply.Reply.{Reply}
use Rattle.call_rules.specs.declared.want.Want.{Want}
use Rattle.call_rules.specs.declared.want.Want.TheVariants as want
use Rattle.role_steps.specs.Mends.{has_mend_in, row_file, starts_mend, starts_mend_of, starts_mends_in, wants_mend}
use Rattle.role_steps.specs.Adoption.{adopts_first, adopts_pull, is_ready, without_pull, fits_own}
use Rattle.role_steps.specs.Epochs.{decides_if, frame_in, passed_over, passes_over, passes_over_of, unanswered}
use Rattle.role_steps.specs.Requests.{asks_close_of, asks_op_of, user_instance}
use Rattle.role_steps.specs.Storage.{copy_of}
use Rattle.role_steps.specs.declared.pulls.Pull.{Pull}
use Rattle.role_steps.specs.declared.rounds.Round.{Round}
use Rattle.role_steps.specs.Tables.{first_that}
use Rattle.role_steps.specs.Using.{asks_want, goes_on, counted_users, accepted_call, next_want, own_call, reply_record}
use Rattle.role_steps.specs.Views.{Frame, SiteView, Told, Shown, Users, Outcome, quiet}
use Rattle.role_steps.specs.declared.synchronizing.FileRow.{FileRow}
use Rattle.role_steps.specs.declared.synchronizing.SyncTable.{SyncTable}
use Rattle.role_steps.specs.declared.users.UserInstance.{UserInstance}
use Rattle.role_steps.specs.declared.users.WaitingCall.{WaitingCall}
use Rattle.the_run.specs.Steps.{adopts_of, ends_event, starts_mends_of}
use Rattle.role_steps.specs.declared.rounds.InEpoch.{InEpoch}

-- ---- what tells of no call but mends ----

abbrev pub IsMend : Call → Type 0
IsMend (call.Mend file) = Unit {0}
IsMend _ = ⊥

-- A record that tells neither of a stop, a boot or a leave nor of a line. A call that it accepts is a mend, and one that it answers
-- is the one that was accepted just before.
abbrev pub MildRecord : Option CallId → Record → Type 0
MildRecord o (says.Up site boot) = ⊥
MildRecord o (says.Stopped site cause) = ⊥
MildRecord o (says.Leave site epoch) = ⊥
MildRecord o (says.Accept site process call words) = IsMend words
MildRecord o (says.Answer site process call r) = o ≡ Some call
MildRecord o (says.Packet number from to kind) = ⊥
MildRecord o says.Void = ⊥
MildRecord o says.Budget = ⊥
MildRecord o _ = Unit {0}

abbrev pub MildTold : Option CallId → Told → Type 0
MildTold o (Shown r) = MildRecord o r
MildTold o _ = Unit {0}

abbrev pub accepted_by : Told → Option CallId
accepted_by (Shown (says.Accept site process call words)) = Some call
accepted_by _ = None

-- each of these is so, after one that has accepted this call
abbrev pub Mild : Option CallId → List Told → Type 0
Mild o [] = Unit {0}
Mild o (x ∷ xs) = MildTold o x × Mild (accepted_by x) xs

none_some : (d : CallId) → ◌≡◌ {A = Option CallId} None (Some d) → ⊥
none_some d e = cc

mild_record : (o : Option CallId) (r : Record) → MildRecord None r → MildRecord o r
mild_record o (says.Answer site process call r) m = absurd (none_some call m)
mild_record o _ m = m

mild_told : (o : Option CallId) (x : Told) → MildTold None x → MildTold o x
mild_told o (Shown r) m = mild_record o r m
mild_told o _ m = tt

pub mild_any : (o : Option CallId) (xs : List Told) → Mild None xs → Mild o xs
mild_any o [] m = tt
mild_any o (x ∷ xs) m = (mild_told o x m.0, m.1)

pub mild_append : (o : Option CallId) (xs ys : List Told) → Mild o xs → Mild None ys → Mild o (xs ++ ys)
mild_append o [] ys m k = mild_any o ys k
mild_append o (x ∷ xs) ys m k = (m.0, mild_append (accepted_by x) xs ys m.1 k)

-- ---- a call that goes on ----

-- the call has its reply, and it is told
pub record Gives (f : Frame) (w : WaitingCall) (u : Users) (told : List Told) : Type 0 where
  pub reply : Reply
  pub wants : next_want f w u ≡ want.Give reply
  pub told_is : told ≡ reply_record f.me f.boot w reply ∷ []

pub goes_told : (f : Frame) (w : WaitingCall) (u : Users) → ((goes_on f w u).told ≡ []) ⊎ Gives f w u (goes_on f w u).told
goes_told f w u = over (next_want f w u) refl
  where
    over : (v : Want) → next_want f w u ≡ v → ((asks_want f w v u).told ≡ []) ⊎ Gives f w u (asks_want f w v u).told
    over (want.Look file what) e = inl refl
    over (want.Open file m) e = inl refl
    over (want.OpenToMend file) e = inl refl
    over (want.Make group kind sites) e = inl refl
    over (want.Do i o) e = inl (did (user_instance u i.serial))
      where
        did : (x : Option UserInstance) → (asks_op_of f w o x u).told ≡ []
        did None = refl
        did (Some x) = refl
    over (want.Close i) e = inl (closed (user_instance u i.serial))
      where
        closed : (x : Option UserInstance) → (asks_close_of f w x u).told ≡ []
        closed None = refl
        closed (Some x) = refl
    over (want.Give r) e = inr (record { reply = r; wants = e; told_is = refl })
    over want.Never e = inl refl

-- ---- the end of an event ----

none_told : (o : Option CallId) (xs : List Told) → xs ≡ [] → Mild o xs
none_told o xs e = subst (Mild o) (sym e) tt

-- a call that has just been accepted is answered at once, or asks something
goes_mild : (f : Frame) (w : WaitingCall) (u : Users) → Mild (Some (own_call f.me f.boot w.call)) (goes_on f w u).told
goes_mild f w u = over (goes_told f w u)
  where
    over : ((goes_on f w u).told ≡ []) ⊎ Gives f w u (goes_on f w u).told → Mild (Some (own_call f.me f.boot w.call)) (goes_on f w u).told
    over (inl e) = none_told (Some (own_call f.me f.boot w.call)) (goes_on f w u).told e
    over (inr g) = subst (Mild (Some (own_call f.me f.boot w.call))) (sym g.told_is) (refl, tt)

mend_mild : (f : Frame) (t : SyncTable) (o : Option FileRow) (v : SiteView) → Mild None (starts_mend_of f t o v).told
mend_mild f t None v = tt
mend_mild f t (Some r) v = (tt, goes_mild f (accepted_call f (Some f.epoch) 0 (call.Mend (row_file t r)) v.users) (counted_users f (Some f.epoch) 0 (call.Mend (row_file t r)) v.users))

mends_mild : (f : Frame) (ts : List SyncTable) (v : SiteView) → Mild None (starts_mends_in f ts v).told
mends_mild f [] v = tt
mends_mild f (t ∷ ts) v = mild_append None (starts_mend f t v).told (starts_mends_in f ts (starts_mend f t v).view).told one (mends_mild f ts (starts_mend f t v).view)
  where
    one : Mild None (starts_mend f t v).told
    one = elim (t.started && not (has_mend_in v.users t.group)) as (λ x. Mild None (elim x as (λ (y : Bool). Outcome SiteView) [ true ↦ starts_mend_of f t (first_that (wants_mend v t) t.files) v | false ↦ quiet v ]).told) [
      | true ↦ mend_mild f t (first_that (wants_mend v t) t.files) v
      | false ↦ tt
    ]

mends_of_mild : (c : Config) (me : ℕ) (e : Option InEpoch) (v : SiteView) → Mild None (starts_mends_of c me e v).told
mends_of_mild c me None v = tt
mends_of_mild c me (Some e) v = mends_mild (frame_in c me v.boot e) v.tables v

passes_mild : (c : Config) (me : ℕ) (links : Links) (o : Option Round) (v : SiteView) → Mild None (passes_over_of c me links o v).told
passes_mild c me links None v = tt
passes_mild c me links (Some r) v = over (unanswered (passed_over links r))
  where
    over : (ss : List ℕ) → Mild None (decides_if c me links (passed_over links r) ss v).told
    over [] = (tt, tt)
    over (s ∷ ss) = tt

pub ends_mild : (c : Config) (me : ℕ) (links : Links) (v : SiteView) → Mild None (ends_event c me links v).told
ends_mild c me links v =
    let o : Outcome SiteView = passes_over c me links v in
    mild_append None o.told (starts_mends_of c me o.view.epoch o.view).told (passes_mild c me links v.round v) (mends_of_mild c me o.view.epoch o.view)

-- ---- adoptions ----

adopts_mild : (f : Frame) (ps : List Pull) (v : SiteView) → Mild None (adopts_first f ps v).told
adopts_mild f [] v = tt
adopts_mild f (p ∷ ps) v =
    elim (is_ready v p) as (λ t. Mild None (elim t as (λ (y : Bool). Outcome SiteView) [ true ↦ elim (fits_own p (copy_of v.store p.file)) as (λ (y : Bool). Outcome SiteView) [ true ↦ adopts_pull f p v | false ↦ adopts_first f ps (without_pull p v) ] | false ↦ adopts_first f ps v ]).told) [
      | true ↦ elim (fits_own p (copy_of v.store p.file)) as (λ t. Mild None (elim t as (λ (y : Bool). Outcome SiteView) [ true ↦ adopts_pull f p v | false ↦ adopts_first f ps (without_pull p v) ]).told) [
        | true ↦ (tt, tt)
        | false ↦ adopts_mild f ps (without_pull p v)
      ]
      | false ↦ adopts_mild f ps v
    ]

pub adopts_of_mild : (c : Config) (me : ℕ) (e : Option InEpoch) (v : SiteView) → Mild None (adopts_of c me e v).told
adopts_of_mild c me None v = tt
adopts_of_mild c me (Some e) v = adopts_mild (frame_in c me v.boot e) v.pulls v
