-- A call line that tells that it is void is so, by the records.
use Rattle.std.proofs.Common.{◌≡◌, ℕ, ◌==◌, ◌⊎◌, Bool, true, false, cond, ◌||◌, ◌&&◌, not, List, [], ◌∷◌, take, Some, None, refl, sym, ◌∙◌, ap, subst, inl, inr, arith}
use Rattle.std.proofs.lemmas.Bool.Decides.{nat_tests}
use Rattle.std.specs.List.{list_any, find}
use Rattle.std.specs.Option.{is_some}
use Rattle.role_steps.proofs.of_plain_facts.Numbers.{equal}
use Rattle.role_steps.proofs.of_plain_facts.Tests.{both_true, false_true, or_true}
use Rattle.locus_ids.specs.declared.config.Config.{Config}
use Rattle.schedule_lines.specs.Ranges.{is_site, is_between, fits_call, fits_event}
use Rattle.schedule_lines.specs.declared.line.Line.{Line as LineWords}
use Rattle.schedule_lines.specs.declared.line.Line.TheVariants as line
use Rattle.schedule_lines.specs.declared.line.ScheduleLine.{ScheduleLine}
use Rattle.schedule_lines.specs.declared.line.ScheduleLine.TheVariants.{Event as EventLine}
use Rattle.trace_book.specs.declared.call.Call.{Call}
use Rattle.trace_book.specs.declared.record.Record.{Record}
use Rattle.trace_book.specs.declared.record.Record.TheVariants as says
use Rattle.wire_messages.specs.declared.packet.Packet.{Packet}
use Rattle.role_steps.specs.Own.{Every}
use Rattle.role_steps.specs.Views.{SiteView, Told, Shown, DiskWrite, Outcome}
use Rattle.role_steps.specs.declared.users.WaitingCall.{WaitingCall}
use Rattle.tree_model.specs.Folds.{Trace}
use Rattle.tree_model.specs.Epochs.{is_up}
use Rattle.tree_model.specs.Calls.{waiting, waiting_of, is_of}
use Rattle.the_run.specs.Disks.{Cut, Booted, Whole, CutOff, cut_disk, is_on_disk}
use Rattle.the_run.specs.Kept.{Among}
use Rattle.the_run.specs.Worlds.{World, Place, Running, Stopped, Line, place_at, told_onto, happened, puts, arms, stops_with, cause_of, cut_told, acts}
use Rattle.the_run.specs.Runs.{is_busy, boots_as}
use Rattle.the_run.proofs.Boots.{acts_cases}
use Rattle.the_run.proofs.Events.{happened_keeps}
use Rattle.lawful_trace.specs.LineRows.{may_be_void, has_no_effect}
use Rattle.row_laws.specs.Inward.{RoleWrite}
use Rattle.row_laws.specs.Shown.{with_told, shown, trace_of, EachRecord}
use Rattle.row_laws.specs.ByLine.{IsVoidIn}
use Rattle.row_laws.specs.Events.{Causes, Forms}
use Rattle.row_laws.specs.Course.{StandsAs, InCourse}
use Rattle.row_laws.specs.Rows.{IsSiteRow}
use Rattle.row_laws.specs.Voids.{HasPlaces, is_call}
use Rattle.row_laws.proofs.Forming.{role_told}
use Rattle.row_laws.proofs.Walks.{served_role}
use Rattle.row_laws.proofs.Voids.{NoVoid, site_told, site_all}
use Rattle.row_laws.specs.CallRows.Lines.{IsVoidCall}
use Rattle.row_laws.specs.CallRows.Standing.{CallsStand}
use Rattle.row_laws.specs.CallRows.Waiting.{IsWaiting, Waits}
use Rattle.row_laws.proofs.CallRows.CallsRun.{after_shown, each_before}

-- ---- what is told of void lines ----

abbrev NoVoidRecord : Record → Type 0
NoVoidRecord says.Void = ⊥
NoVoidRecord _ = Unit {0}

record_void : (lines : List ScheduleLine) (m : ℕ) (r : Record) (now : Trace) → NoVoidRecord r → IsVoidCall lines now (record { line = m; what = r })
record_void lines m says.Void now h = absurd h
record_void lines m _ now h = tt

told_void : (lines : List ScheduleLine) (m : ℕ) (x : Told) (now : Trace) → NoVoid x → EachRecord (IsVoidCall lines) now → EachRecord (IsVoidCall lines) (with_told m x now)
told_void lines m (Shown says.Void) now h g = absurd h
told_void lines m (Shown r) now h g = (record_void lines m r now h, g)
told_void lines m _ now h g = g

onto_void : (lines : List ScheduleLine) (m : ℕ) (told : List Told) (trace : List Line) → Every NoVoid told → EachRecord (IsVoidCall lines) (shown trace) → EachRecord (IsVoidCall lines) (shown (told_onto m told trace))
onto_void lines m [] trace h g = g
onto_void lines m (x ∷ xs) trace h g = onto_void lines m xs (record { number = m; told = x } ∷ trace) h.1 (told_void lines m x (shown trace) h.0 g)

-- where sites go on as they may, void calls are so
abbrev pub VoidsGo : Config → List ScheduleLine → World → Type 0
VoidsGo c lines w = EachRecord (IsSiteRow c) (trace_of w) → EachRecord (IsVoidCall lines) (trace_of w)

pub order_before : (c : Config) (m : ℕ) (told : List Told) (trace : List Line) → EachRecord (IsSiteRow c) (shown (told_onto m told trace)) → EachRecord (IsSiteRow c) (shown trace)
order_before c m told trace h = each_before c m told (shown trace) (subst (EachRecord (IsSiteRow c)) (after_shown m told trace) h)

pub happened_voids : (c : Config) (lines : List ScheduleLine) (m : ℕ) (ps : List Packet) (told : List Told) (change : World → World) (w : World) → (EachRecord (IsSiteRow c) (trace_of w) → EachRecord (IsVoidCall lines) (trace_of w) → EachRecord (IsVoidCall lines) (shown (told_onto m told w.trace))) → VoidsGo c lines w → VoidsGo c lines (happened m ps told change w)
happened_voids c lines m ps told change w rows f =
    happened_keeps (VoidsGo c lines) m ps told change w f (λ l order. f order)
    (λ k b t order. (let old : EachRecord (IsSiteRow c) (trace_of w) = order_before c m told w.trace order in rows old (f old)))

pub free_voids : (c : Config) (lines : List ScheduleLine) (m : ℕ) (ps : List Packet) (told : List Told) (change : World → World) (w : World) → Every NoVoid told → VoidsGo c lines w → VoidsGo c lines (happened m ps told change w)
free_voids c lines m ps told change w h f = happened_voids c lines m ps told change w (λ order g. onto_void lines m told w.trace h g) f

cut_none : (s : ℕ) (d : DiskWrite) (how : Cut) (b : Bool) → NoVoid (Shown d.says) → Every NoVoid (cond b (Shown d.says ∷ Shown (says.Stopped s (cause_of how)) ∷ []) (Shown (says.Stopped s (cause_of how)) ∷ []))
cut_none s d how true h = (h, (tt, tt))
cut_none s d how false h = (tt, tt)

pub acts_voids : (c : Config) (lines : List ScheduleLine) (m s : ℕ) (k : Causes) (v : SiteView) (o : Outcome SiteView) (w : World) → Forms s v.boot k o → VoidsGo c lines w → VoidsGo c lines (acts m s v o w)
acts_voids c lines m s k v o w h f =
    acts_cases (VoidsGo c lines) m s v o w
    (free_voids c lines m o.sent o.told (λ now. puts s (Running o.view) now) w (site_all s k o.told h.told) f)
    (λ a. free_voids c lines m o.sent o.told (λ now. puts s (Running o.view) (arms a now)) w (site_all s k o.told h.told) f)
    (λ d a e. free_voids c lines m [] (cut_told s v.store d a.how a.left) (stops_with s (cut_disk v.boot v.store d a.how a.left)) w (cut_none s d a.how (is_on_disk v.store d a.how a.left) (site_told s k (Shown d.says) (role_told s k (Shown d.says) (served_role d.says (subst RoleWrite e h.written))))) f)

pub boots_voids : (c : Config) (lines : List ScheduleLine) (m s : ℕ) (b : Booted) (w : World) → VoidsGo c lines w → VoidsGo c lines (boots_as m s b w)
boots_voids c lines m s (Whole d None) w f = free_voids c lines m [] (Shown (says.Up s d.label.boot) ∷ []) _ w (tt, tt) f
boots_voids c lines m s (Whole d (Some a)) w f = free_voids c lines m [] (Shown (says.Up s d.label.boot) ∷ []) _ w (tt, tt) f
boots_voids c lines m s (CutOff d how) w f = free_voids c lines m [] (Shown (says.Stopped s (cause_of how)) ∷ []) (stops_with s d) w (tt, tt) f

-- ---- a void call ----

any_row : (process : ℕ) (rows : List WaitingCall) → list_any (λ (x : WaitingCall). x.process == process) rows ≡ true → (r : WaitingCall) × (Among r rows × (r.process ≡ process))
any_row process [] h = absurd (false_true h)
any_row process (x ∷ xs) h =
    (elim (x.process == process) as (λ b. (x.process == process) ≡ b → (b || list_any (λ (y : WaitingCall). y.process == process) xs) ≡ true → (r : WaitingCall) × (Among r (x ∷ xs) × (r.process ≡ process))) [
      | true ↦ λ e g. (x, (inl refl, equal x.process process e))
      | false ↦ λ e g. later (any_row process xs g)
    ]) refl h
  where
    later : (r : WaitingCall) × (Among r xs × (r.process ≡ process)) → (r : WaitingCall) × (Among r (x ∷ xs) × (r.process ≡ process))
    later k = (k.0, (inr k.1.0, k.1.1))

some_found : {A : Type 0} (p : A → Bool) (xs : List A) (x : A) → Among x xs → p x ≡ true → is_some (find p xs) ≡ true
some_found p [] x a t = absurd a
some_found p (y ∷ ys) x a t =
    (elim (p y) as (λ b. p y ≡ b → is_some (cond b (Some y) (find p ys)) ≡ true) [
      | true ↦ λ e. refl
      | false ↦ λ e. later (λ b. some_found p ys x b t) a e
    ]) refl
  where
    true_false : true ≡ false → ⊥
    true_false e = cc

    later : (Among x ys → is_some (find p ys) ≡ true) → (x ≡ y) ⊎ Among x ys → p y ≡ false → is_some (find p ys) ≡ true
    later rest (inl same) e = absurd (true_false (sym t ∙ (ap p same ∙ e)))
    later rest (inr b) e = rest b

both_test : (a b c d : ℕ) → a ≡ b → c ≡ d → ((a == b) && (c == d)) ≡ true
both_test a b c d e f = grind (arith, nat_tests)

busy_waits : (c : Config) (s boot calls process : ℕ) (now : Trace) (rows : List WaitingCall) → list_any (λ (x : WaitingCall). x.process == process) rows ≡ true → Waits c s boot now calls rows → is_some (waiting_of s process (waiting now)) ≡ true
busy_waits c s boot calls process now rows busy h =
    let k : (r : WaitingCall) × (Among r rows × (r.process ≡ process)) = any_row process rows busy in
    let x : IsWaiting s boot now k.0 = h.back k.0 k.1.0 in
    some_found (is_of s process) (waiting now) x.0 x.1.0 (both_test x.0.site s x.0.process process x.1.1.0 (x.1.1.1.0 ∙ k.1.1))

-- the site is stopped, or its process waits
void_place : (c : Config) (s process : ℕ) (w : World) (p : Place) → place_at w s ≡ Some p → is_busy process (Some p) ≡ true → StandsAs c (trace_of w) s p → CallsStand c w → (not (is_up c (trace_of w) s) || is_some (waiting_of s process (waiting (trace_of w)))) ≡ true
void_place c s process w (Stopped d) here busy stands g = ap (λ (b : Bool). not b || is_some (waiting_of s process (waiting (trace_of w)))) stands.0
void_place c s process w (Running v) here busy stands g =
    ap (λ (b : Bool). not (is_up c (trace_of w) s) || b) (busy_waits c s v.boot v.users.calls process (trace_of w) v.users.waiting busy (g.places s (Running v) here).waits) ∙ or_true (not (is_up c (trace_of w) s))

void_call : (c : Config) (lines : List ScheduleLine) (n s process : ℕ) (words : Call) (w : World) → is_site c.sites s ≡ true → is_busy process (place_at w s) ≡ true → HasPlaces c w → InCourse c lines n w → CallsStand c w → may_be_void (has_no_effect c (take n lines) (trace_of w) (line.Call s process words)) ≡ true
void_call c lines n s process words w fit busy has f g =
    let r : (p : Place) × (place_at w s ≡ Some p) = has s fit in
    void_place c s process w r.0 r.1 (sym (ap (is_busy process) r.1) ∙ busy) (f.places s r.0 r.1) g

-- of a void line that is a call
pub void_effect : (c : Config) (lines : List ScheduleLine) (n : ℕ) (l : LineWords) (w : World) → fits_event c.sites l ≡ true → is_call (EventLine l) ≡ true → IsVoidIn w l → HasPlaces c w → InCourse c lines n w → CallsStand c w → may_be_void (has_no_effect c (take n lines) (trace_of w) l) ≡ true
void_effect c lines n (line.Call site process words) w fit call void has f g = void_call c lines n site process words w (both_true (is_site c.sites site) (is_between 1 8 process) (both_true (is_site c.sites site && is_between 1 8 process) (fits_call c.sites words) fit).0).0 void has f g
void_effect c lines n _ w fit call void has f g = absurd (false_true call)
