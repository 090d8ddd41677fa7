-- After each event of a site no directory of a group that has started wants a mend that may start, or a mend of the group waits: the
-- event ends with the mends that start.
use Rattle.std.proofs.Common.{◌≡◌, ℕ, ◌+◌, ◌==◌, nat_lt, Bool, true, false, cond, not, ◌&&◌, ◌||◌, List, [], ◌∷◌, Option, Some, None, refl, sym, ◌∙◌, ap, subst, inl, inr}
use Rattle.std.specs.List.{list_any}
use Rattle.role_steps.proofs.of_plain_facts.Numbers.{equal, equal_self}
use Rattle.role_steps.proofs.of_plain_facts.Options.{none_some, some_same}
use Rattle.role_steps.proofs.of_plain_facts.Tests.{true_false}
use Rattle.locus_ids.specs.declared.config.Config.{Config}
use Rattle.locus_ids.specs.declared.ids.FileId.{FileId}
use Rattle.locus_ids.specs.declared.refusal.Refusal.TheVariants as refusal
use Rattle.locus_ids.specs.declared.sites.Links.{Links}
use Rattle.trace_book.specs.declared.call.Call.{Call}
use Rattle.trace_book.specs.declared.call.Call.TheVariants as call
use Rattle.trace_book.specs.declared.descriptor.Beginning.TheVariants as begins
use Rattle.trace_book.specs.declared.reply.Reply.TheVariants as reply
use Rattle.call_rules.specs.declared.want.Want.TheVariants as want
use Rattle.role_steps.specs.Epochs.{frame_in, passes_over, starts_part, starts_merge, leaves}
use Rattle.role_steps.specs.Mends.{mends_in, is_mend_in, has_mend_in, row_file, wants_mend, starts_mend_of, starts_mend, starts_mends_in, starts_mends}
use Rattle.role_steps.specs.Requests.{waiting_of, waiting_key, next_request}
use Rattle.role_steps.specs.Tables.{with_row, first_that}
use Rattle.role_steps.specs.Using.{is_packed, asks_want, accepted, on_call, own_call}
use Rattle.role_steps.specs.Views.{Frame, Users, SiteView, Outcome, Event, Calls, Receives, Ticks, Parts, Merges, GivesUp, quiet}
use Rattle.role_steps.specs.declared.rounds.InEpoch.{InEpoch}
use Rattle.role_steps.specs.declared.synchronizing.FileRow.{FileRow}
use Rattle.role_steps.specs.declared.synchronizing.SyncTable.{SyncTable}
use Rattle.role_steps.specs.declared.users.Asking.TheVariants as asking
use Rattle.role_steps.specs.declared.users.WaitingCall.{WaitingCall}
use Rattle.wire_messages.specs.declared.body.Opening.TheVariants as how
use Rattle.schedule_lines.specs.declared.line.ScheduleLine.{ScheduleLine}
use Rattle.the_run.specs.Kept.{Among}
use Rattle.the_run.specs.Worlds.{World}
use Rattle.row_laws.proofs.Bounds.EachView.{EachView, KeepsViews, views_kept, views_first}
use Rattle.calm_laws.specs.Rounds.{IsInRound}
use Rattle.calm_laws.proofs.Rounds.{in_round}
use Rattle.the_run.specs.Steps.{is_dropped, takes, takes_call, adopts_in, tries_at, starts_mends_of, ends_event, whole, step}
use Rattle.calm_laws.proofs.Calls.{mends_calls}
use Rattle.calm_laws.proofs.Lists.{none_passes}

-- ---- one group ----

-- none of its directories wants a mend that may start
abbrev pub NoneWants : SiteView → SyncTable → Type 0
NoneWants v t = (r : FileRow) → Among r t.files → wants_mend v t r ≡ true → ⊥

-- where the group has started, and no mend of it waits
abbrev pub HasMended : Frame → SiteView → SyncTable → Type 0
HasMended f v t = t.started ≡ true → is_packed f t.group ≡ true → has_mend_in v.users t.group ≡ false → NoneWants v t

-- what starts of a site's mends: its store and what it has no hope for stay, and mends that wait stay
record Starts (v u : SiteView) : Type 0 where
  same : u ≡ record v { users = u.users }
  hopeless : u.users.hopeless ≡ v.users.hopeless
  waits : (group : ℕ) → has_mend_in v.users group ≡ true → has_mend_in u.users group ≡ true

starts_itself : (v : SiteView) → Starts v v
starts_itself v = record { same = refl; hopeless = refl; waits = λ group h. h }

starts_then : (v u y : SiteView) → Starts v u → Starts u y → Starts v y
starts_then v u y h g = record {
  same = g.same ∙ ap (λ (x : SiteView). record x { users = y.users }) h.same;
  hopeless = g.hopeless ∙ h.hopeless;
  waits = λ group k. g.waits group (h.waits group k);
}

-- a row that is put in place of one that passes a test passes it too, so some row passes still
stays_any : {A : Type 0} (test : A → Bool) (key : A → ℕ) (x : A) (xs : List A) → ((y : A) → test y ≡ true → (key y == key x) ≡ true → test x ≡ true) → list_any test xs ≡ true → list_any test (with_row key x xs) ≡ true
stays_any test key x [] same h = absurd (true_false (sym h))
stays_any {A = A} test key x (y ∷ ys) same h = by_order (nat_lt (key y) (key x)) (key y == key x) refl (stays_any test key x ys same) h
  where
    first : (a b : Bool) → a ≡ true → (a || b) ≡ true
    first true b e = refl
    first false b e = absurd (true_false (sym e))

    second : (a b : Bool) → b ≡ true → (a || b) ≡ true
    second true b e = refl
    second false b e = e

    either : (a b : Bool) → (key y == key x) ≡ true → test y ≡ a → (a || b) ≡ true → (test x || b) ≡ true
    either true b k e q = first (test x) b (same y e k)
    either false b k e q = second (test x) b q

    deeper : (a : Bool) → (list_any test ys ≡ true → list_any test (with_row key x ys) ≡ true) → (a || list_any test ys) ≡ true → (a || list_any test (with_row key x ys)) ≡ true
    deeper true f q = refl
    deeper false f q = f q

    by_order : (a b : Bool) → (key y == key x) ≡ b → (list_any test ys ≡ true → list_any test (with_row key x ys) ≡ true) → (test y || list_any test ys) ≡ true → list_any {X = A} test (elim a [ true ↦ y ∷ with_row key x ys | false ↦ elim b [ true ↦ x ∷ ys | false ↦ x ∷ y ∷ ys ] ]) ≡ true
    by_order true b k f q = deeper (test y) f q
    by_order false true k f q = either (test y) (list_any test ys) k refl q
    by_order false false k f q = second (test x) (test y || list_any test ys) q

-- the row that was put in place passes
put_any : {A : Type 0} (test : A → Bool) (key : A → ℕ) (x : A) (xs : List A) → test x ≡ true → list_any test (with_row key x xs) ≡ true
put_any test key x [] h = ap (λ (b : Bool). b || false) h
put_any {A = A} test key x (y ∷ ys) h = by_order (nat_lt (key y) (key x)) (key y == key x) (put_any test key x ys h)
  where
    second : (a b : Bool) → b ≡ true → (a || b) ≡ true
    second true b e = refl
    second false b e = e

    by_order : (a b : Bool) → list_any test (with_row key x ys) ≡ true → list_any {X = A} test (elim a [ true ↦ y ∷ with_row key x ys | false ↦ elim b [ true ↦ x ∷ ys | false ↦ x ∷ y ∷ ys ] ]) ≡ true
    by_order true b k = second (test y) (list_any test (with_row key x ys)) k
    by_order false true k = ap (λ (b : Bool). b || list_any test ys) h
    by_order false false k = ap (λ (b : Bool). b || (test y || list_any test ys)) h

-- ---- a mend that starts ----

-- mends have their groups as keys
mend_key : (g process : ℕ) (words : Call) → mends_in g words ≡ true → waiting_of process words ≡ g
mend_key g process (call.Mend file) h = equal file.group g h
mend_key g process _ h = absurd (true_false (sym h))

-- the call waits then, and so do all mends that waited
record Waits (g : ℕ) (v u : Users) : Type 0 where
  hopeless : u.hopeless ≡ v.hopeless
  waits : (group : ℕ) → has_mend_in v group ≡ true → has_mend_in u group ≡ true
  mine : has_mend_in u g ≡ true

mend_waits : (f : Frame) (t : SyncTable) (r : FileRow) (u : Users) → is_packed f t.group ≡ true → Waits t.group u (on_call f (Some f.epoch) 0 (call.Mend (row_file t r)) u).view
mend_waits f t r u packed = by_packed (is_packed f t.group) packed
  where
    counted : Users
    counted = record u { calls = u.calls + 1 }

    w : WaitingCall
    w = accepted 0 (u.calls + 1) (call.Mend (row_file t r)) (begins.Walks (own_call f.me f.boot (u.calls + 1)))

    by_packed : (b : Bool) → b ≡ true → Waits t.group u (asks_want f w (cond b (want.OpenToMend (row_file t r)) (want.Give (reply.No refusal.NoStorage))) counted).view
    by_packed false e = absurd (true_false (sym e))
    by_packed true e = record { hopeless = refl; waits = λ g h. stays_any (is_mend_in g) waiting_key asked u.waiting (same g) h; mine = put_any (is_mend_in t.group) waiting_key asked u.waiting (equal_self t.group) }
      where
        asked : WaitingCall
        asked = next_request w (asking.Open (u.serials + 1) (row_file t r) how.Mend)

        same : (g : ℕ) (y : WaitingCall) → is_mend_in g y ≡ true → (waiting_key y == waiting_key asked) ≡ true → is_mend_in g asked ≡ true
        same g y h k = subst (λ (i : ℕ). (t.group == i) ≡ true) (sym (equal (waiting_key y) t.group k) ∙ mend_key g y.process y.words h) (equal_self t.group)

-- ---- what starts in a group ----

record Group (f : Frame) (v u : SiteView) (t : SyncTable) : Type 0 where
  starts : Starts v u
  mended : HasMended f u t

one_group : (f : Frame) (t : SyncTable) (v : SiteView) → is_packed f t.group ≡ true → Group f v (starts_mend f t v).view t
one_group f t v packed = by_guard (t.started && not (has_mend_in v.users t.group)) refl
  where
    guarded : (a b : Bool) → a ≡ true → b ≡ false → (a && not b) ≡ false → ⊥
    guarded true false p q h = true_false h
    guarded true true p q h = true_false q
    guarded false b p q h = true_false (sym p)

    clash : (b : Bool) → b ≡ true → b ≡ false → ⊥
    clash true p q = true_false q
    clash false p q = true_false (sym p)

    by_first : (o : Option FileRow) → first_that (wants_mend v t) t.files ≡ o → Group f v (starts_mend_of f t o v).view t
    by_first None e = record { starts = starts_itself v; mended = λ s p idle r a h. none_passes (wants_mend v t) t.files e r a h }
    by_first (Some r) e =
        let k : Waits t.group v.users (on_call f (Some f.epoch) 0 (call.Mend (row_file t r)) v.users).view = mend_waits f t r v.users packed in
        record { starts = record { same = refl; hopeless = k.hopeless; waits = k.waits }; mended = λ s p idle q a h. clash (has_mend_in (on_call f (Some f.epoch) 0 (call.Mend (row_file t r)) v.users).view t.group) k.mine idle }

    by_guard : (b : Bool) → (t.started && not (has_mend_in v.users t.group)) ≡ b → Group f v (elim b as (λ (q : Bool). Outcome SiteView) [ true ↦ starts_mend_of f t (first_that (wants_mend v t) t.files) v | false ↦ quiet v ]).view t
    by_guard true e = by_first (first_that (wants_mend v t) t.files) refl
    by_guard false e = record { starts = starts_itself v; mended = λ s p idle r a h. guarded t.started (has_mend_in v.users t.group) s idle e }

wants_same : (v u : SiteView) (t : SyncTable) (r : FileRow) → Starts v u → wants_mend u t r ≡ wants_mend v t r
wants_same v u t r h = ap (λ (x : SiteView). wants_mend x t r) h.same ∙ ap (λ (files : List FileId). wants_mend (record v { users = record v.users { hopeless = files } }) t r) h.hopeless

later : (f : Frame) (v u : SiteView) (t : SyncTable) → Starts v u → HasMended f v t → HasMended f u t
later f v u t h k s p idle r a wants = k s p (none (has_mend_in v.users t.group) refl) r a (sym (wants_same v u t r h) ∙ wants)
  where
    none : (b : Bool) → has_mend_in v.users t.group ≡ b → b ≡ false
    none true e = absurd (true_false (sym (h.waits t.group e) ∙ idle))
    none false e = refl

-- ---- all groups ----

abbrev pub ArePacked : Frame → List SyncTable → Type 0
ArePacked f ts = (t : SyncTable) → Among t ts → is_packed f t.group ≡ true

record Groups (f : Frame) (v u : SiteView) (ts : List SyncTable) : Type 0 where
  starts : Starts v u
  mended : (t : SyncTable) → Among t ts → HasMended f u t

all_groups : (f : Frame) (ts : List SyncTable) (v : SiteView) → ArePacked f ts → Groups f v (starts_mends_in f ts v).view ts
all_groups f [] v packed = record { starts = starts_itself v; mended = λ t a. absurd a }
all_groups f (t ∷ ts) v packed = both (all_groups f ts (starts_mend f t v).view (λ z a. packed z (inr a)))
  where
    mid : SiteView
    mid = (starts_mend f t v).view

    u : SiteView
    u = (starts_mends_in f ts mid).view

    h : Group f v mid t
    h = one_group f t v (packed t (inl refl))

    both : Groups f mid u ts → Groups f v u (t ∷ ts)
    both g = record { starts = starts_then v mid u h.starts g.starts; mended = λ z a. over z a }
      where
        over : (z : SyncTable) → Among z (t ∷ ts) → HasMended f u z
        over z (inl e) = subst (λ (x : SyncTable). HasMended f u x) (sym e) (later f mid u t g.starts h.mended)
        over z (inr a) = g.mended z a

-- ---- an event ----

-- so it is of all groups of a site in its epoch
abbrev pub MendsHaveStarted : Config → SiteView → Type 0
MendsHaveStarted c v = (e : InEpoch) → v.epoch ≡ Some e → ArePacked (frame_in c 0 0 e) v.tables → (t : SyncTable) → Among t v.tables → HasMended (frame_in c 0 0 e) v t

mends_started : (c : Config) (me : ℕ) (v : SiteView) (d : InEpoch) → v.epoch ≡ Some d → MendsHaveStarted c (starts_mends (frame_in c me v.boot d) v).view
mends_started c me v d inside = subst (λ (x : SiteView). MendsHaveStarted c x) (sym same) (λ e is packed t a. over e (some_same d e (sym inside ∙ is)) packed t a)
  where
    u : SiteView
    u = (starts_mends (frame_in c me v.boot d) v).view

    same : u ≡ record v { users = u.users }
    same = (mends_calls (frame_in c me v.boot d) v).same

    over : (e : InEpoch) → d ≡ e → ArePacked (frame_in c 0 0 e) v.tables → (t : SyncTable) → Among t v.tables → HasMended (frame_in c 0 0 e) (record v { users = u.users }) t
    over e eq packed t a =
        subst (λ (i : InEpoch). HasMended (frame_in c 0 0 i) (record v { users = u.users }) t) eq
        (subst (λ (x : SiteView). HasMended (frame_in c 0 0 d) x t) same ((all_groups (frame_in c me v.boot d) v.tables v (subst (λ (i : InEpoch). ArePacked (frame_in c 0 0 i) v.tables) (sym eq) packed)).mended t a))

ends_mended : (c : Config) (me : ℕ) (links : Links) (v : SiteView) → MendsHaveStarted c (ends_event c me links v).view
ends_mended c me links v = by_epoch now.epoch refl
  where
    now : SiteView
    now = (passes_over c me links v).view

    by_epoch : (o : Option InEpoch) → now.epoch ≡ o → MendsHaveStarted c (starts_mends_of c me o now).view
    by_epoch None k = λ e is packed t a. absurd (none_some e (sym k ∙ is))
    by_epoch (Some d) k = mends_started c me now d k

pub step_mended : (c : Config) (me : ℕ) (links : Links) (v : SiteView) (e : Event) → MendsHaveStarted c v → MendsHaveStarted c (step c me links v e).view
step_mended c me links v (Calls process words) h = ends_mended c me links (takes_call c me process words v).view
step_mended c me links v (Receives p) h = by_test (is_dropped p v)
  where
    by_test : (b : Bool) → MendsHaveStarted c (elim b as (λ (q : Bool). Outcome SiteView) [ true ↦ quiet v | false ↦ whole c me links (takes c me links p p.body v) (tries_at c me p.body) ]).view
    by_test true = h
    by_test false = ends_mended c me links (tries_at c me p.body (takes c me links p p.body v).view).view
step_mended c me links v Ticks h = ends_mended c me links (adopts_in c me v).view
step_mended c me links v Parts h = ends_mended c me links (starts_part me links v).view
step_mended c me links v Merges h = ends_mended c me links (starts_merge me links v).view
step_mended c me links v GivesUp h = ends_mended c me links (leaves me v).view

-- so it is in each world of a round
pub mends_in_round : (c : Config) (lines : List ScheduleLine) (n : ℕ) (w : World) → IsInRound c lines n w → EachView (MendsHaveStarted c) w
mends_in_round c lines n w round = in_round c (EachView (MendsHaveStarted c)) (views_kept c (MendsHaveStarted c) keeps) (views_first c (MendsHaveStarted c) keeps) lines n w round
  where
    keeps : KeepsViews c (MendsHaveStarted c)
    keeps = record { steps = λ me links v e h. step_mended c me links v e h; booted = λ boot copies e inside. absurd (none_some e inside) }
