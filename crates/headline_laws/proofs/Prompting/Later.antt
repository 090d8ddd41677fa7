-- What a site tells in an event: only a call that a line asks has to come first at its line, and no record says that a line is void.
use Rattle.std.proofs.Common.{◌≡◌, ℕ, ◌+◌, Bool, true, false, cond, List, [], ◌∷◌, ◌++◌, Option, None, Some, refl, sym, ◌∙◌, subst, ◌⊎◌, inl, inr}
use Rattle.role_steps.proofs.of_plain_facts.Options.{some_none, some_same}
use Rattle.role_steps.proofs.of_plain_facts.Tests.{true_false}
use Rattle.locus_ids.specs.declared.config.Config.{Config}
use Rattle.locus_ids.specs.declared.ids.CallId.{CallId}
use Rattle.locus_ids.specs.declared.ids.EpochId.{EpochId}
use Rattle.locus_ids.specs.declared.sites.Links.{Links}
use Rattle.trace_book.specs.declared.call.Call.{Call}
use Rattle.trace_book.specs.declared.call.Call.TheVariants as call
use Rattle.trace_book.specs.declared.record.Record.{Record}
use Rattle.trace_book.specs.declared.record.Record.TheVariants as says
use Rattle.role_steps.specs.Own.{Every}
use Rattle.call_rules.specs.declared.answer.Answer.{Answer}
use Rattle.role_steps.specs.Using.{changed_records, goes_on, on_call, counted_call, accepted_call, own_call, takes_answer, with_answer}
use Rattle.role_steps.specs.Epochs.{frame_in, leaves_of}
use Rattle.role_steps.specs.Views.{Calls, DiskWrite, Event, Frame, Shown, SiteView, Told, Users}
use Rattle.role_steps.specs.declared.copies.FileCopy.{FileCopy}
use Rattle.role_steps.specs.declared.rounds.InEpoch.{InEpoch}
use Rattle.role_steps.specs.declared.users.WaitingCall.{WaitingCall}
use Rattle.role_steps.proofs.Sending.{every_append}
use Rattle.the_run.specs.Disks.{Armed, is_on_disk}
use Rattle.the_run.specs.Steps.{call_frame, epoch_id, step}
use Rattle.the_run.specs.Worlds.{cause_of, cut_told}
use Rattle.lawful_trace.specs.Prompt.{comes_first_at}
use Rattle.site_laws.specs.Vectors.Held.{IsOf, OnDisk}
use Rattle.site_laws.proofs.Vectors.SiteDisks.{step_disk}
use Rattle.headline_laws.proofs.Prompting.Heads.{Gives, Mild, MildTold, accepted_by, goes_told}
use Rattle.headline_laws.proofs.Prompting.Splits.{Head, Splits, step_splits}

-- ---- what doesn't come first ----

-- the record needn't be the first of its line
abbrev pub IsLater : Told → Type 0
IsLater (Shown r) = comes_first_at r ≡ false
IsLater _ = Unit {0}

-- what a line tells: all but the first record are such, and none follows a record that it is void
abbrev pub OfLine : List Told → Type 0
OfLine [] = Unit {0}
OfLine (x ∷ xs) = Every IsLater xs × (x ≡ Shown says.Void → xs ≡ [])

void_first : comes_first_at says.Void ≡ false → ⊥
void_first e = true_false e

pub later_of_line : (xs : List Told) → Every IsLater xs → OfLine xs
later_of_line [] h = tt
later_of_line (x ∷ xs) h = (h.1, λ e. absurd (void_first (subst IsLater e h.0)))

-- ---- what an event of a site tells ----

mild_record : (o : Option CallId) (r : Record) → MildTold o (Shown r) → comes_first_at r ≡ false
mild_record o (says.Up site boot) m = absurd m
mild_record o (says.Accept site process d (call.Mend file)) m = refl
mild_record o (says.Accept site process d words) m = absurd m
mild_record o says.Void m = absurd m
mild_record o _ m = refl

mild_told : (o : Option CallId) (x : Told) → MildTold o x → IsLater x
mild_told o (Shown r) m = mild_record o r m
mild_told o _ m = tt

mild_later : (o : Option CallId) (xs : List Told) → Mild o xs → Every IsLater xs
mild_later o [] m = tt
mild_later o (x ∷ xs) m = (mild_told o x m.0, mild_later (accepted_by x) xs m.1)

goes_later : (f : Frame) (w : WaitingCall) (u : Users) → Every IsLater (goes_on f w u).told
goes_later f w u = over (goes_told f w u)
  where
    over : ((goes_on f w u).told ≡ []) ⊎ Gives f w u (goes_on f w u).told → Every IsLater (goes_on f w u).told
    over (inl e) = subst (Every IsLater) (sym e) tt
    over (inr g) = subst (Every IsLater) (sym g.told_is) (refl, tt)

changed_later : (me boot : ℕ) (e : EpochId) (ws : List WaitingCall) → Every IsLater (changed_records me boot e ws)
changed_later me boot e [] = tt
changed_later me boot e (w ∷ ws) = (refl, changed_later me boot e ws)

leaves_later : (me : ℕ) (o : Option InEpoch) (v : SiteView) → Every IsLater (leaves_of me o v).told
leaves_later me None v = tt
leaves_later me (Some e) v = (refl, changed_later me v.boot e.id v.users.waiting)

taken_later : (f : Frame) (w : WaitingCall) (a : Answer) (u : Users) → Every IsLater (takes_answer f w a u).told
taken_later f w a u = (tt, goes_later f (with_answer w a) u)

called_line : (f : Frame) (now : Option EpochId) (process : ℕ) (words : Call) (u : Users) (rest : List Told) → Every IsLater rest → OfLine ((on_call f now process words u).told ++ rest)
called_line f now process words u rest h =
    let w : WaitingCall = accepted_call f now process words u in
    let counted : Users = counted_call f now process words u in
    (every_append IsLater (goes_on f w counted).told rest (goes_later f w counted) h, λ q. absurd (no_void f.me process (own_call f.me f.boot (u.calls + 1)) words q))
  where
    no_void : (s p : ℕ) (d : CallId) (words : Call) → Shown (says.Accept s p d words) ≡ Shown says.Void → ⊥
    no_void s p d words q = cc

-- the event is no call
abbrev pub IsNoCall : Event → Type 0
IsNoCall e = (process : ℕ) (words : Call) → e ≡ Calls process words → ⊥

head_later : (c : Config) (me : ℕ) (v : SiteView) (e : Event) (told : List Told) → IsNoCall e → Head c me v e told → Every IsLater told
head_later c me v e told own (inl none) = subst (Every IsLater) (sym none) tt
head_later c me v e told own (inr (inl k)) = absurd (own k.process k.words k.event_is)
head_later c me v e told own (inr (inr (inl k))) = subst (Every IsLater) (sym k.taken.told_is) (taken_later (frame_in c me v.boot k.epoch) (record k.taken.call { brought = k.taken.brought }) k.taken.answer k.taken.users)
head_later c me v e told own (inr (inr (inr left))) = subst (Every IsLater) (sym left) (leaves_later me v.epoch v)

pub step_later : (c : Config) (me : ℕ) (links : Links) (v : SiteView) (e : Event) → IsNoCall e → Every IsLater (step c me links v e).told
step_later c me links v e own = over (step_splits c me links v e)
  where
    over : Splits c me v e (step c me links v e).told → Every IsLater (step c me links v e).told
    over k = subst (Every IsLater) (sym k.told_is) (every_append IsLater k.first k.rest (head_later c me v e k.first own k.head) (mild_later None k.rest k.mild))

call_line : (c : Config) (me : ℕ) (v : SiteView) (e : Event) (told rest : List Told) → Every IsLater rest → Head c me v e told → OfLine (told ++ rest)
call_line c me v e told rest h (inl none) = later_of_line (told ++ rest) (every_append IsLater told rest (subst (Every IsLater) (sym none) tt) h)
call_line c me v e told rest h (inr (inl k)) = subst (λ (xs : List Told). OfLine (xs ++ rest)) (sym k.told_is) (called_line (call_frame c me v.boot v.epoch) (epoch_id v.epoch) k.process k.words v.users rest h)
call_line c me v e told rest h (inr (inr (inl k))) = later_of_line (told ++ rest) (every_append IsLater told rest (subst (Every IsLater) (sym k.taken.told_is) (taken_later (frame_in c me v.boot k.epoch) (record k.taken.call { brought = k.taken.brought }) k.taken.answer k.taken.users)) h)
call_line c me v e told rest h (inr (inr (inr left))) = later_of_line (told ++ rest) (every_append IsLater told rest (subst (Every IsLater) (sym left) (leaves_later me v.epoch v)) h)

pub step_line : (c : Config) (me : ℕ) (links : Links) (v : SiteView) (e : Event) → OfLine (step c me links v e).told
step_line c me links v e = over (step_splits c me links v e)
  where
    over : Splits c me v e (step c me links v e).told → OfLine (step c me links v e).told
    over k = subst OfLine (sym k.told_is) (call_line c me v e k.first k.rest (mild_later None k.rest k.mild) k.head)

-- what a cut event leaves
version_later : (s : ℕ) (r : Record) (x : FileCopy) → IsOf s r x → comes_first_at r ≡ false
version_later s (says.Commit file t stamp parents content) x k = refl
version_later s (says.Adopt file t stamp) x k = refl
version_later s _ x k = absurd k

pub cut_later : (c : Config) (s : ℕ) (links : Links) (v : SiteView) (e : Event) (d : DiskWrite) (a : Armed) → (step c s links v e).written ≡ Some d → Every IsLater (cut_told s v.store d a.how a.left)
cut_later c s links v e d a q = over (step_disk c s links v e) (is_on_disk v.store d a.how a.left)
  where
    told : Every IsLater (Shown (says.Stopped s (cause_of a.how)) ∷ [])
    told = (refl, tt)

    over : OnDisk s v.store.copies (step c s links v e).view.store.copies (step c s links v e).told (step c s links v e).written → (b : Bool) → Every IsLater (cond b (Shown d.says ∷ Shown (says.Stopped s (cause_of a.how)) ∷ []) (Shown (says.Stopped s (cause_of a.how)) ∷ []))
    over k false = (refl, tt)
    over (inl k) true = absurd (some_none d (sym q ∙ k.none))
    over (inr k) true = (subst (λ (y : DiskWrite). comes_first_at y.says ≡ false) (some_same k.0 d (sym k.1.is_written ∙ q)) (version_later s k.0.says k.0.copy k.1.says_so), (refl, tt))
