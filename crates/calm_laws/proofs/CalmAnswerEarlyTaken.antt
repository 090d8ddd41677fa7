-- The requests that waited for the start of a group are taken in turn: each of them is handed on, whatever is taken before and after it.
use Rattle.std.proofs.Common.{◌≡◌, ℕ, ◌<◌, ◌≤◌, ◌==◌, Bool, true, false, ◌&&◌, List, [], ◌∷◌, ◌++◌, Option, Some, None, refl, sym, ◌∙◌, ap, subst, inl, inr}
use Rattle.std.specs.List.{list_any}
use Rattle.std.specs.Option.{is_some}
use Rattle.role_steps.proofs.of_plain_facts.Numbers.{apart_test, equal_test}
use Rattle.role_steps.proofs.of_plain_facts.Options.{some_same}
use Rattle.role_steps.proofs.of_plain_facts.Tests.{true_false}
use Rattle.locus_ids.specs.Sites.{has}
use Rattle.locus_ids.specs.declared.config.Config.{Config}
use Rattle.locus_ids.specs.declared.ids.EpochId.{EpochId}
use Rattle.locus_ids.specs.declared.ids.FileId.{FileId}
use Rattle.locus_ids.specs.declared.ids.Serial.{Serial}
use Rattle.locus_ids.specs.declared.refusal.Refusal.{Refusal}
use Rattle.locus_ids.specs.declared.sites.Sites.{Sites}
use Rattle.locus_ids.specs.Sizes.{sites_max}
use Rattle.trace_book.specs.Same.{same_serial}
use Rattle.trace_book.specs.declared.operation.What.{What}
use Rattle.trace_book.specs.declared.record.Record.{Record}
use Rattle.trace_book.specs.declared.record.Record.TheVariants as says
use Rattle.wire_messages.specs.declared.body.Body.{Body}
use Rattle.wire_messages.specs.declared.body.Body.TheVariants as body
use Rattle.wire_messages.specs.declared.body.Opening.{Opening}
use Rattle.wire_messages.specs.declared.packet.Packet.{Packet}
use Rattle.role_steps.specs.Looks.{LookRequest, last_look, letter, look_key, service, is_look_before, is_same_look, new_look, after_last, takes_look}
use Rattle.role_steps.specs.Opens.{OpenRequest, Decision, Denies, Grants, decision, decides, denied_row, asked_row, on_open_of, takes_open, open_key, open_row, with_open}
use Rattle.role_steps.specs.Own.{Every}
use Rattle.role_steps.specs.Reports.{is_early_of, takes_early, takes_all_early}
use Rattle.role_steps.specs.Tables.{row}
use Rattle.role_steps.specs.Versions.{file_row, row_ino}
use Rattle.role_steps.specs.Views.{Frame, Told, Shown, Outcome, boot_in, packet, process_key, quiet, sends, serial_key}
use Rattle.role_steps.specs.declared.rounds.InEpoch.{InEpoch}
use Rattle.role_steps.specs.declared.synchronizing.Early.{Early}
use Rattle.role_steps.specs.declared.synchronizing.FileRow.{FileRow}
use Rattle.role_steps.specs.declared.synchronizing.LastLook.{LastLook}
use Rattle.role_steps.specs.declared.synchronizing.OpenRow.{OpenRow}
use Rattle.role_steps.specs.declared.synchronizing.OpenStage.TheVariants as stage
use Rattle.role_steps.specs.declared.synchronizing.SyncTable.{SyncTable}
use Rattle.role_steps.specs.declared.users.WaitingCall.{WaitingCall}
use Rattle.role_steps.proofs.Rows.{row_other}
use Rattle.the_run.specs.Kept.{Among}
use Rattle.the_run.proofs.Boots.{at_each}
use Rattle.store_laws.proofs.Numbers.{serial_key_eq}
use Rattle.store_laws.proofs.Tabled.{latest_other}
use Rattle.tree_laws.proofs.Syncs.Adding.{latest_found, latest_same}
use Rattle.row_laws.proofs.Orderly.Formed.{among_left, among_right}
use Rattle.calm_laws.specs.TablesCalm.Shapes.{HoldsListed, IsRequest, IsRequestOf, TableShape}
use Rattle.calm_laws.proofs.TablesCalm.Shaping.{TellsRecord, TellsNamed, early_keeps}
use Rattle.calm_laws.specs.Carrying.{IsMember, frame_of, held_request, look_body, open_body, own_serial}
use Rattle.calm_laws.specs.Rounds.{AnswersAgain, look_of}
use Rattle.calm_laws.proofs.Lists.{every_among, row_key}
use Rattle.calm_laws.proofs.LookRequests.{LooksOn, taken}
use Rattle.calm_laws.proofs.CalmAnswerLooksKnown.{key_process, key_site}
use Rattle.calm_laws.proofs.CalmAnswerOpenTaken.{OpensOn, grows_itself, grows_then, open_grows, open_started, open_taken, opens_later}
use Rattle.calm_laws.proofs.CalmAnswerTurning.{Grows}

-- ---- one request ----

-- what a look leaves of its table
record SameBut (t n : SyncTable) : Type 0 where
  group : n.group ≡ t.group
  reported : n.reported ≡ t.reported
  started : n.started ≡ t.started
  early : n.early ≡ t.early
  files : n.files ≡ t.files
  opens : n.opens ≡ t.opens

after_same : (f : Frame) (us : ℕ) (l : LookRequest) (o : Option LastLook) (t : SyncTable) → SameBut t (after_last f us l o t).view
after_same f us l None t = record { group = refl; reported = refl; started = refl; early = refl; files = refl; opens = refl }
after_same f us l (Some last) t =
    elim (is_look_before l last) as (λ b. SameBut t (elim b as (λ (z : Bool). Outcome SyncTable) [ true ↦ quiet t | false ↦ elim (is_same_look l last) [ true ↦ sends (packet f last.to last.body ∷ []) t | false ↦ new_look f us l (file_row t l.file.ino) t ] ]).view) [
      | true ↦ record { group = refl; reported = refl; started = refl; early = refl; files = refl; opens = refl }
      | false ↦ elim (is_same_look l last) as (λ b. SameBut t (elim b as (λ (z : Bool). Outcome SyncTable) [ true ↦ sends (packet f last.to last.body ∷ []) t | false ↦ new_look f us l (file_row t l.file.ino) t ]).view) [
        | true ↦ record { group = refl; reported = refl; started = refl; early = refl; files = refl; opens = refl }
        | false ↦ record { group = refl; reported = refl; started = refl; early = refl; files = refl; opens = refl }
      ]
    ]

look_same : (f : Frame) (us : ℕ) (l : LookRequest) (t : SyncTable) → SameBut t (takes_look f us l t).view
look_same f us l t = after_same f us l (row look_key (process_key us l.process) t.looks) t

-- another process's last look stays
after_looks : (f : Frame) (us : ℕ) (l : LookRequest) (o : Option LastLook) (t : SyncTable) (key : ℕ) → (process_key us l.process == key) ≡ false → row look_key key (after_last f us l o t).view.looks ≡ row look_key key t.looks
after_looks f us l None t key ne = row_other look_key (last_look us l (letter us l (file_row t l.file.ino) (service f us l.what (file_row t l.file.ino)))) key t.looks ne
after_looks f us l (Some last) t key ne =
    elim (is_look_before l last) as (λ b. row look_key key (elim b as (λ (z : Bool). Outcome SyncTable) [ true ↦ quiet t | false ↦ elim (is_same_look l last) [ true ↦ sends (packet f last.to last.body ∷ []) t | false ↦ new_look f us l (file_row t l.file.ino) t ] ]).view.looks ≡ row look_key key t.looks) [
      | true ↦ refl
      | false ↦ elim (is_same_look l last) as (λ b. row look_key key (elim b as (λ (z : Bool). Outcome SyncTable) [ true ↦ sends (packet f last.to last.body ∷ []) t | false ↦ new_look f us l (file_row t l.file.ino) t ]).view.looks ≡ row look_key key t.looks) [
        | true ↦ refl
        | false ↦ row_other look_key (last_look us l (letter us l (file_row t l.file.ino) (service f us l.what (file_row t l.file.ino)))) key t.looks ne
      ]
    ]

open_looks : (f : Frame) (us : ℕ) (o : OpenRequest) (t : SyncTable) → (takes_open f us o t).view.looks ≡ t.looks
open_looks f us o t = by_row (open_row t (own_serial us o.serial))
  where
    by_decision : (d : Decision) → (decides f t us o d).view.looks ≡ t.looks
    by_decision (Denies why) = refl
    by_decision (Grants ss stamp vector parents set k) = refl

    by_row : (r : Option OpenRow) → (on_open_of f t us o r).view.looks ≡ t.looks
    by_row None = by_decision (decision f t us o o.how)
    by_row (Some r) = refl

pub early_looks : (f : Frame) (us process : ℕ) (b : Body) (t : SyncTable) (key group : ℕ) → IsRequestOf group process b → (process_key us process == key) ≡ false → row look_key key (takes_early f us b t).view.looks ≡ row look_key key t.looks
early_looks f us process (body.Open serial call who request file q) t key group h ne = ap (λ (xs : List LastLook). row look_key key xs) (open_looks f us (record { serial = serial; call = call; process = who; request = request; file = file; how = q }) t)
early_looks f us process (body.Look call who request take file w) t key group h ne = after_looks f us (record { call = call; process = who; request = request; take = take; file = file; what = w }) (row look_key (process_key us who) t.looks) t key (subst (λ (p : ℕ). (process_key us p == key) ≡ false) (sym h.0) ne)
early_looks f us process _ t key group h ne = refl

pub early_started : (f : Frame) (us : ℕ) (b : Body) (t : SyncTable) → (takes_early f us b t).view.started ≡ t.started
early_started f us (body.Open serial call who request file q) t = open_started f us (record { serial = serial; call = call; process = who; request = request; file = file; how = q }) t
early_started f us (body.Look call who request take file w) t = (look_same f us (record { call = call; process = who; request = request; take = take; file = file; what = w }) t).started
early_started f us _ t = refl

-- ---- rows of opens ----

-- the instance that the request opens, if it is an open
abbrev pub OpensKnown : (Serial → Type 0) → SyncTable → ℕ → Body → Type 0
OpensKnown known t us (body.Open serial call who request file q) = known (own_serial us serial) → is_some (open_row t (own_serial us serial)) ≡ true
OpensKnown known t us _ = Unit {0}

open_found : (f : Frame) (us : ℕ) (o : OpenRequest) (t : SyncTable) (i : Serial) → is_some (open_row t i) ≡ true → is_some (open_row (takes_open f us o t).view i) ≡ true
open_found f us o t i h = by_row (open_row t (own_serial us o.serial))
  where
    by_decision : (d : Decision) → is_some (open_row (decides f t us o d).view i) ≡ true
    by_decision (Denies why) = latest_found open_key (serial_key i) (denied_row us o why) t.opens h
    by_decision (Grants ss stamp vector parents set k) = latest_found open_key (serial_key i) (asked_row us o ss stamp vector parents set k) t.opens h

    by_row : (r : Option OpenRow) → is_some (open_row (on_open_of f t us o r).view i) ≡ true
    by_row None = by_decision (decision f t us o o.how)
    by_row (Some r) = h

early_found : (f : Frame) (us : ℕ) (b : Body) (t : SyncTable) (i : Serial) → is_some (open_row t i) ≡ true → is_some (open_row (takes_early f us b t).view i) ≡ true
early_found f us (body.Open serial call who request file q) t i h = open_found f us (record { serial = serial; call = call; process = who; request = request; file = file; how = q }) t i h
early_found f us (body.Look call who request take file w) t i h = subst (λ (xs : List OpenRow). is_some (row open_key (serial_key i) xs) ≡ true) (sym (look_same f us (record { call = call; process = who; request = request; take = take; file = file; what = w }) t).opens) h
early_found f us _ t i h = h

known_on : (known : Serial → Type 0) (f : Frame) (us : ℕ) (b : Body) (t : SyncTable) (site : ℕ) (z : Body) → OpensKnown known t site z → OpensKnown known (takes_early f us b t).view site z
known_on known f us b t site (body.Open serial call who request file q) k = λ i. early_found f us b t (own_serial site serial) (k i)
known_on known f us b t site _ k = tt

all_known_on : (known : Serial → Type 0) (f : Frame) (us : ℕ) (b : Body) (t : SyncTable) (es : List Early) → Every (λ (x : Early). OpensKnown known t x.site x.body) es → Every (λ (x : Early). OpensKnown known (takes_early f us b t).view x.site x.body) es
all_known_on known f us b t [] k = tt
all_known_on known f us b t (x ∷ xs) k = (known_on known f us b t x.site x.body k.0, all_known_on known f us b t xs k.1)

-- ---- the table grows ----

module _ (known : Serial → Type 0) (hand : Early → Type 0) (f : Frame) where
  early_grows : (us : ℕ) (b : Body) (t : SyncTable) → t.started ≡ true → OpensKnown known t us b → Grows known hand t (takes_early f us b t).view
  early_grows us (body.Open serial call who request file q) t started fresh = open_grows known hand f us (record { serial = serial; call = call; process = who; request = request; file = file; how = q }) t started fresh
  early_grows us (body.Look call who request take file w) t started fresh = record {
    group = s.group;
    reported = λ z h. subst (λ (r : Sites). has r z ≡ true) (sym s.reported) h;
    opened = λ i k. ap (λ (xs : List OpenRow). list_any (λ (q : OpenRow). same_serial q.inst i) xs) s.opens;
    rows = λ i r e a. ap (λ (xs : List OpenRow). row open_key (serial_key i) xs) s.opens ∙ e;
    held = λ z x a. absurd (true_false (sym started ∙ z));
  }
    where
      s : SameBut t (takes_look f us (record { call = call; process = who; request = request; take = take; file = file; what = w }) t).view
      s = look_same f us (record { call = call; process = who; request = request; take = take; file = file; what = w }) t
  early_grows us _ t started fresh = grows_itself known hand t

  pub all_grow : (es : List Early) (t : SyncTable) → t.started ≡ true → Every (λ (x : Early). OpensKnown known t x.site x.body) es → Grows known hand t (takes_all_early f es t).view
  all_grow [] t started fresh = grows_itself known hand t
  all_grow (x ∷ xs) t started fresh = grows_then known hand t (takes_early f x.site x.body t).view (takes_all_early f xs (takes_early f x.site x.body t).view).view (early_grows x.site x.body t started fresh.0) (early_started f x.site x.body t ∙ started)
      (all_grow xs (takes_early f x.site x.body t).view (early_started f x.site x.body t ∙ started) (all_known_on known f x.site x.body t xs fresh.1))

-- ---- shapes, whatever was named ----

abbrev pub named_all : EpochId → ℕ → Serial → Type 0
named_all i group inst = Unit {0}

all_named : (told : List Told) → Every (TellsNamed named_all) told
all_named [] = tt
all_named (x ∷ xs) = (by_told x, all_named xs)
  where
    by_record : (r : Record) → TellsRecord named_all r
    by_record (says.Grant at call number inst m file stamp ss) = tt
    by_record (says.Refuse at call number inst m file why) = tt
    by_record _ = tt

    by_told : (y : Told) → TellsNamed named_all y
    by_told (Shown r) = by_record r
    by_told _ = tt

module _ (c : Config) (e : InEpoch) (css : ℕ) (came : EpochId → ℕ → Body → Type 0) where
  abbrev f : Frame
  f = frame_of c e css

  abbrev Shape : SyncTable → Type 0
  Shape t = TableShape c css e named_all came t

  abbrev AllRequests : ℕ → List Early → Type 0
  AllRequests group es = Every (IsRequest e came group) es

  shape_on : (x : Early) (t : SyncTable) → IsRequest e came t.group x → Shape t → Shape (takes_early f x.site x.body t).view
  shape_on x t h k = (early_keeps c css (boot_in e.members.boot css) e named_all came x.site x.process x.body t h.0 h.1).shape (all_named (takes_early f x.site x.body t).told) k

  group_on : (x : Early) (t : SyncTable) → IsRequest e came t.group x → (takes_early f x.site x.body t).view.group ≡ t.group
  group_on x t h = (early_keeps c css (boot_in e.members.boot css) e named_all came x.site x.process x.body t h.0 h.1).group

  all_on : (x : Early) (t : SyncTable) (es : List Early) → IsRequest e came t.group x → AllRequests t.group es → AllRequests (takes_early f x.site x.body t).view.group es
  all_on x t es h k = subst (λ (g : ℕ). AllRequests g es) (sym (group_on x t h)) k

  early_none : (x : Early) (t : SyncTable) → t.early ≡ [] → (takes_early f x.site x.body t).view.early ≡ []
  early_none x t none = by_body x.body
    where
      by_body : (b : Body) → (takes_early f x.site b t).view.early ≡ []
      by_body (body.Open serial call who request file q) = by_row (open_row t (own_serial x.site serial))
        where
          o : OpenRequest
          o = record { serial = serial; call = call; process = who; request = request; file = file; how = q }

          by_decision : (d : Decision) → (decides f t x.site o d).view.early ≡ []
          by_decision (Denies why) = none
          by_decision (Grants ss stamp vector parents set k) = none

          by_row : (r : Option OpenRow) → (on_open_of f t x.site o r).view.early ≡ []
          by_row None = by_decision (decision f t x.site o q)
          by_row (Some r) = none
      by_body (body.Look call who request take file w) = (look_same f x.site (record { call = call; process = who; request = request; take = take; file = file; what = w }) t).early ∙ none
      by_body _ = none

  -- the request of the process among those that wait
  own_test : (s process : ℕ) (b : Body) → is_early_of s process (held_request s process b) ≡ true
  own_test s process b = both (s == s) (process == process) (equal_test s s refl) (equal_test process process refl)
    where
      both : (i j : Bool) → i ≡ true → j ≡ true → (i && j) ≡ true
      both i j p q = ap (λ (z : Bool). z && j) p ∙ q

  later_one : (s process : ℕ) (b : Body) (x : Early) (xs : List Early) → Among (held_request s process b) (x ∷ xs) → is_early_of s process x ≡ false → Among (held_request s process b) xs
  later_one s process b x xs (inl same) q = absurd (true_false (sym (own_test s process b) ∙ (ap (is_early_of s process) same ∙ q)))
  later_one s process b x xs (inr a) q = a

  -- ---- a look ----

  module _ (s : ℕ) (y : WaitingCall) (file : FileId) (w : What) (take : ℕ) (own : IsMember e css) (member : IsMember e s) (small : y.process < 256) where
    abbrev Last : SyncTable → Type 0
    Last t = (l : LastLook) → row look_key (process_key s y.process) t.looks ≡ Some l → (is_look_before (look_of y file w take) l ≡ false) × (is_same_look (look_of y file w take) l ≡ true → AnswersAgain c e css s y file w take l)

    abbrev Ours : List Early → Type 0
    Ours es = (x : Early) → Among x es → is_early_of s y.process x ≡ true → x ≡ held_request s y.process (look_body y file w take)

    other_key : (x : Early) → x.process < 256 → is_early_of s y.process x ≡ false → (process_key x.site x.process == process_key s y.process) ≡ false
    other_key x low h = apart_test (process_key x.site x.process) (process_key s y.process) (λ z. true_false (sym (both (equal_test x.site s (key_site x.site x.process s y.process low small z)) (equal_test x.process y.process (key_process x.site x.process s y.process low small z))) ∙ h))
      where
        both : {i j : Bool} → i ≡ true → j ≡ true → (i && j) ≡ true
        both {i} {j} p q = ap (λ (z : Bool). z && j) p ∙ q

    look_now : (t : SyncTable) → t.early ≡ [] → Shape t → Last t → LooksOn c e css s y file w take (takes_look f s (look_of y file w take) t).sent
    look_now t none shape last = taken c e css s y file w take own member t (record {
      last = last;
      holders = λ r found. every_among (λ (z : FileRow). Every (HoldsListed e) z.holders) r t.files (row_key row_ino file.ino t.files r found).0 shape.holders;
      held = λ x a h. absurd (subst (λ (xs : List Early). Among x xs) none a);
    })

    looks_more : (sent later : List Packet) → ((p : Packet) → Among p sent → Among p later) → LooksOn c e css s y file w take sent → LooksOn c e css s y file w take later
    looks_more sent later more h = record { letter = h.letter; there = more h.letter h.there; carries = h.carries }

    pub look_handed : (es : List Early) (t : SyncTable) → t.early ≡ [] → Shape t → Last t → AllRequests t.group es → Every (λ (x : Early). x.process < 256) es → Ours es → Among (held_request s y.process (look_body y file w take)) es → LooksOn c e css s y file w take (takes_all_early f es t).sent
    look_handed [] t none shape last all low ours a = absurd a
    look_handed (x ∷ xs) t none shape last all low ours a = by_test (is_early_of s y.process x) refl (λ q. look_handed xs (takes_early f x.site x.body t).view (early_none x t none) (shape_on x t all.0 shape)
        (λ l found. last l (sym (early_looks f x.site x.process x.body t (process_key s y.process) t.group all.0.0 (other_key x low.0 q)) ∙ found))
        (all_on x t xs all.0 all.1) low.1 (λ z b h. ours z (inr b) h) (later_one s y.process (look_body y file w take) x xs a q))
      where
        by_test : (b : Bool) → is_early_of s y.process x ≡ b → (is_early_of s y.process x ≡ false → LooksOn c e css s y file w take (takes_all_early f xs (takes_early f x.site x.body t).view).sent) → LooksOn c e css s y file w take (takes_all_early f (x ∷ xs) t).sent
        by_test true q later = looks_more (takes_early f x.site x.body t).sent ((takes_early f x.site x.body t).sent ++ (takes_all_early f xs (takes_early f x.site x.body t).view).sent) (λ p b. among_left p (takes_early f x.site x.body t).sent _ b)
            (subst (λ (z : Early). LooksOn c e css s y file w take (takes_early f z.site z.body t).sent) (sym (ours x (inl refl) q)) (look_now t none shape last))
        by_test false q later = looks_more (takes_all_early f xs (takes_early f x.site x.body t).view).sent ((takes_early f x.site x.body t).sent ++ (takes_all_early f xs (takes_early f x.site x.body t).view).sent) (λ p b. among_right p (takes_early f x.site x.body t).sent _ b) (later q)

  -- ---- an open ----

  module _ (s : ℕ) (y : WaitingCall) (serial : ℕ) (file : FileId) (q : Opening) (own : IsMember e css) (member : IsMember e s) (low_site : s ≤ sites_max) (known : Serial → Type 0) (hand : Early → Type 0) where
    abbrev inst : Serial
    inst = own_serial s serial

    abbrev Well : SyncTable → Type 0
    Well t = (r : OpenRow) → open_row t (own_serial s serial) ≡ Some r → (r.inst ≡ own_serial s serial) × (r.stage ≡ stage.Ended → ⊥)

    abbrev OursOpen : List Early → Type 0
    OursOpen es = (x : Early) → Among x es → is_early_of s y.process x ≡ true → x ≡ held_request s y.process (open_body y serial file q)

    -- a new row is of the instance where it has its key
    new_well : (r : OpenRow) (t : SyncTable) → r.inst.us ≤ sites_max → (r.stage ≡ stage.Ended → ⊥) → Well t → Well (with_open r t)
    new_well r t low past well z found = at_each (open_key r) (serial_key (own_serial s serial)) ((z.inst ≡ own_serial s serial) × (z.stage ≡ stage.Ended → ⊥))
        (λ eq. its (some_same r z (sym (latest_same open_key r t.opens) ∙ (ap (λ (k : ℕ). row open_key k (with_open r t).opens) eq ∙ found))) eq)
        (λ ne. well z (sym (latest_other open_key r (serial_key (own_serial s serial)) t.opens ne) ∙ found))
      where
        its : r ≡ z → open_key r ≡ serial_key (own_serial s serial) → (z.inst ≡ own_serial s serial) × (z.stage ≡ stage.Ended → ⊥)
        its same eq = (ap (λ (k : OpenRow). k.inst) (sym same) ∙ serial_key_eq r.inst (own_serial s serial) low low_site eq, λ g. past (ap (λ (k : OpenRow). k.stage) same ∙ g))

    open_well : (us : ℕ) (o : OpenRequest) (t : SyncTable) → us ≤ sites_max → Well t → Well (takes_open f us o t).view
    open_well us o t low well = by_row (open_row t (own_serial us o.serial))
      where
        refused_ended : (why : Refusal) → stage.Refused why ≡ stage.Ended → ⊥
        refused_ended why z = cc

        asked_ended : stage.Asked ≡ stage.Ended → ⊥
        asked_ended z = cc

        by_decision : (d : Decision) → Well (decides f t us o d).view
        by_decision (Denies why) = new_well (denied_row us o why) t low (refused_ended why) well
        by_decision (Grants ss stamp vector parents set k) = new_well (asked_row us o ss stamp vector parents set k) t low asked_ended well

        by_row : (r : Option OpenRow) → Well (on_open_of f t us o r).view
        by_row None = by_decision (decision f t us o o.how)
        by_row (Some r) = well

    early_well : (us : ℕ) (b : Body) (t : SyncTable) → us ≤ sites_max → Well t → Well (takes_early f us b t).view
    early_well us (body.Open number call who request g way) t low well = open_well us (record { serial = number; call = call; process = who; request = request; file = g; how = way }) t low well
    early_well us (body.Look call who request times g what) t low well = λ r found. well r (ap (λ (xs : List OpenRow). row open_key (serial_key (own_serial s serial)) xs) (sym (look_same f us (record { call = call; process = who; request = request; take = times; file = g; what = what }) t).opens) ∙ found)
    early_well us _ t low well = well

    abbrev its_open : OpenRequest
    its_open = record { serial = serial; call = y.call; process = y.process; request = y.request; file = file; how = q }

    pub open_handed : (es : List Early) (t : SyncTable) → t.started ≡ true → Shape t → Well t → AllRequests t.group es → Every (λ (x : Early). x.site ≤ sites_max) es → Every (λ (x : Early). OpensKnown known t x.site x.body) es → OursOpen es → Among (held_request s y.process (open_body y serial file q)) es →
        OpensOn c e css s serial (takes_all_early f es t).view (takes_all_early f es t).sent
    open_handed [] t started shape well all low fresh ours a = absurd a
    open_handed (x ∷ xs) t started shape well all low fresh ours a = by_test (is_early_of s y.process x) refl (λ z. open_handed xs (takes_early f x.site x.body t).view (early_started f x.site x.body t ∙ started) (shape_on x t all.0 shape) (early_well x.site x.body t low.0 well)
        (all_on x t xs all.0 all.1) low.1 (all_known_on known f x.site x.body t xs fresh.1) (λ k b h. ours k (inr b) h) (later_one s y.process (open_body y serial file q) x xs a z))
      where
        first : Outcome SyncTable
        first = takes_early f x.site x.body t

        rest : Outcome SyncTable
        rest = takes_all_early f xs first.view

        by_test : (b : Bool) → is_early_of s y.process x ≡ b → (is_early_of s y.process x ≡ false → OpensOn c e css s serial (takes_all_early f xs (takes_early f x.site x.body t).view).view (takes_all_early f xs (takes_early f x.site x.body t).view).sent) → OpensOn c e css s serial (takes_all_early f (x ∷ xs) t).view (takes_all_early f (x ∷ xs) t).sent
        by_test true z later = opens_later c e css s serial known hand first.view rest.view first.sent (first.sent ++ rest.sent) (all_grow known hand f xs first.view (early_started f x.site x.body t ∙ started) (all_known_on known f x.site x.body t xs fresh.1)) (λ p b. among_left p first.sent rest.sent b)
            (subst (λ (k : Early). OpensOn c e css s serial (takes_early f k.site k.body t).view (takes_early f k.site k.body t).sent) (sym (ours x (inl refl) z)) (open_taken c e css s its_open own member named_all came t shape well))
        by_test false z later = opens_later c e css s serial known hand rest.view rest.view rest.sent (first.sent ++ rest.sent) (grows_itself known hand rest.view) (λ p b. among_right p first.sent rest.sent b) (later z)
