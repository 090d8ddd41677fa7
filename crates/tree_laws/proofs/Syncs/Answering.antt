-- The answer of a storage site to an open of a file that stands: its user is told where, and nothing is refused any more.
use Rattle.std.proofs.Common.{◌≡◌, ℕ, ◌+◌, ◌*◌, ◌<◌, ◌==◌, Bool, true, false, cond, List, [], ◌∷◌, filter, map, Option, Some, None, refl, sym, ap, ◌∙◌, subst, ◌⊎◌, inl, inr, arith}
use Rattle.role_steps.proofs.of_plain_facts.Options.{some_same}
use Rattle.locus_ids.specs.declared.config.Config.{Config}
use Rattle.locus_ids.specs.declared.ids.CallId.{CallId}
use Rattle.locus_ids.specs.declared.ids.EpochId.{EpochId}
use Rattle.locus_ids.specs.declared.ids.FileId.{FileId}
use Rattle.locus_ids.specs.declared.ids.Mode.{Mode}
use Rattle.locus_ids.specs.declared.ids.Mode.TheVariants as mode
use Rattle.locus_ids.specs.declared.ids.Serial.{Serial}
use Rattle.locus_ids.specs.declared.ids.Stamp.{Stamp}
use Rattle.locus_ids.specs.declared.refusal.Refusal.{Refusal}
use Rattle.locus_ids.specs.Sizes.{sites_max}
use Rattle.trace_book.specs.declared.record.Record.TheVariants as says
use Rattle.wire_messages.specs.declared.body.OpenedAs.{OpenedAs}
use Rattle.wire_messages.specs.declared.body.OpenedAs.TheVariants as opened
use Rattle.wire_messages.specs.declared.body.Opening.TheVariants as how
use Rattle.role_steps.specs.Opens.{by_stage, granted_at_last, granted_row, grants_row, grants_user, is_open_on, numbered_file, on_opened, on_opened_of, open_key, open_row, with_open}
use Rattle.role_steps.specs.Tables.{row, with_latest}
use Rattle.role_steps.specs.Views.{Frame, Told, Shown, serial_key}
use Rattle.role_steps.specs.declared.synchronizing.OpenRow.{OpenRow}
use Rattle.role_steps.specs.declared.synchronizing.OpenStage.{OpenStage}
use Rattle.role_steps.specs.declared.synchronizing.OpenStage.TheVariants as stage
use Rattle.role_steps.specs.declared.synchronizing.SyncTable.{SyncTable}
use Rattle.the_run.specs.Worlds.{Line}
use Rattle.tree_laws.specs.Doing.{TableFine}
use Rattle.tree_laws.specs.Following.{MayTell, IsFollowed}
use Rattle.tree_laws.specs.Packets.{MakesNow, OpenedFact, RefusedFull, file_in, BegunSize, HasSize}
use Rattle.tree_laws.specs.Past.{Printed, WasGranted, WasNamed, WasRefused, NamingRecord, GrantRecord, RefusalRecord}
use Rattle.tree_laws.specs.Tables.{AsItsFile, AskedFact, IsGrantedNow, RowFact, StageFact, TableFact, named_openers, named_row}
use Rattle.tree_laws.proofs.CarriedOpens.{was_then}
use Rattle.tree_laws.proofs.Serials.{unnamed}
use Rattle.tree_laws.specs.Syncs.Opening.{IsFileMode}
use Rattle.tree_laws.specs.Syncs.Serving.{Serving}
use Rattle.tree_laws.proofs.Syncs.Adding.{apart_latest, every_latest, latest_found}
use Rattle.tree_laws.proofs.Syncs.Again.{again}
use Rattle.tree_laws.proofs.Syncs.Files.{files_like}
use Rattle.tree_laws.proofs.Syncs.Looks.{sends_fine}
use Rattle.tree_laws.proofs.Syncs.OpensStay.{granted_named}
use Rattle.tree_laws.proofs.Syncs.Rows.{row_every, row_key_is}

-- ---- one name ----

refused_names : (e : EpochId) (d : CallId) (request : ℕ) (i : Serial) (m : Mode) (why : Refusal) (older : List Line) (x : Told) → Printed (RefusalRecord e d request i m why) older x → Printed (NamingRecord e i) older x
refused_names e d request i m why older (Shown (says.Refuse at call number inst mode_is g reason)) p = record { epoch_is = p.epoch_is; serial_is = p.serial_is }
refused_names e d request i m why older (Shown r) p = absurd p
refused_names e d request i m why older x p = absurd p

pub refused_named : (trace : List Line) (e : EpochId) (d : CallId) (request : ℕ) (i : Serial) (m : Mode) (why : Refusal) → WasRefused trace e d request i m why → WasNamed trace e i
refused_named trace e d request i m why w = was_then (Printed (RefusalRecord e d request i m why)) (Printed (NamingRecord e i)) (refused_names e d request i m why) trace w

module _ (c : Config) (e : EpochId) (i : Serial) (d other : CallId) (request number : ℕ) (m : Mode) (why : Refusal) (how_is : Mode) (file : FileId) (stamp : Option Stamp) (ss : ℕ) where
  refused_now : (older : List Line) (x : Told) → MayTell c older x → Printed (RefusalRecord e d request i m why) older x → WasNamed older e i → ⊥
  refused_now older (Shown (says.Refuse at call k inst mode_is g reason)) may p w = may.in_time.new (subst (λ (j : Serial). WasNamed older at j) (sym p.serial_is) (subst (λ (y : EpochId). WasNamed older y i) (sym p.epoch_is) w))
  refused_now older (Shown r) may p w = absurd p
  refused_now older x may p w = absurd p

  granted_now : (older : List Line) (x : Told) → MayTell c older x → Printed (GrantRecord e other number i how_is file stamp ss) older x → WasNamed older e i → ⊥
  granted_now older (Shown (says.Grant at call k inst mode_is g on place)) may p w = may.in_time.new (subst (λ (j : Serial). WasNamed older at j) (sym p.serial_is) (subst (λ (y : EpochId). WasNamed older y i) (sym p.epoch_is) w))
  granted_now older (Shown r) may p w = absurd p
  granted_now older x may p w = absurd p

  at_once : (older : List Line) (x : Told) → Printed (RefusalRecord e d request i m why) older x → Printed (GrantRecord e other number i how_is file stamp ss) older x → ⊥
  at_once older (Shown (says.Refuse at call k inst mode_is g reason)) p q = q
  at_once older (Shown r) p q = absurd p
  at_once older x p q = absurd p

  -- what was refused wasn't granted
  pub one_answer : (trace : List Line) → IsFollowed c trace → WasRefused trace e d request i m why → WasGranted trace e other number i how_is file stamp ss → ⊥
  one_answer [] h w v = w
  one_answer (x ∷ older) h (inl p) (inl q) = at_once older x.told p q
  one_answer (x ∷ older) h (inl p) (inr v) = refused_now older x.told h.0 p (granted_named older e other number i how_is file stamp ss v)
  one_answer (x ∷ older) h (inr w) (inl q) = granted_now older x.told h.0 q (refused_named older e d request i m why w)
  one_answer (x ∷ older) h (inr w) (inr v) = one_answer older h.1 w v

-- ---- a row in the place of another ----

pub openers_replaced : {A B : Type 0} (key : A → ℕ) (p : A → Bool) (g : A → B) (x r : A) (xs : List A) → row key (key x) xs ≡ Some r → p x ≡ p r → g x ≡ g r → map g (filter p (with_latest key x xs)) ≡ map g (filter p xs)
openers_replaced {A = A} {B = B} key p g x r [] e passes same = absurd (none e)
  where
    none : ◌≡◌ {A = Option A} None (Some r) → ⊥
    none k = cc
openers_replaced {A = A} {B = B} key p g x r (y ∷ ys) e passes same = at (key y == key x) e (λ k. openers_replaced key p g x r ys k passes same)
  where
    swap : (b : Bool) → g x ≡ g y → map g (cond b (x ∷ filter p ys) (filter p ys)) ≡ map g (cond b (y ∷ filter p ys) (filter p ys))
    swap true k = ap (λ (o : B). o ∷ map g (filter p ys)) k
    swap false k = refl

    front : (b : Bool) → map g (filter p (with_latest key x ys)) ≡ map g (filter p ys) → map g (cond b (y ∷ filter p (with_latest key x ys)) (filter p (with_latest key x ys))) ≡ map g (cond b (y ∷ filter p ys) (filter p ys))
    front true k = ap (λ (os : List B). g y ∷ os) k
    front false k = k

    at : (b : Bool) → ◌≡◌ {A = Option A} (elim b [ true ↦ Some y | false ↦ row key (key x) ys ]) (Some r) → (row key (key x) ys ≡ Some r → map g (filter p (with_latest key x ys)) ≡ map g (filter p ys))
        → map g (filter p (elim b [ true ↦ x ∷ ys | false ↦ y ∷ with_latest key x ys ])) ≡ map g (filter p (y ∷ ys))
    at true k later = ap (λ (b : Bool). map g (cond b (x ∷ filter p ys) (filter p ys))) (passes ∙ ap p (sym (some_same y r k))) ∙ swap (p y) (same ∙ ap g (sym (some_same y r k)))
    at false k later = front (p y) (later k)

pub changed_table : (c : Config) (trace : List Line) (f : Frame) (t : SyncTable) (r : OpenRow) → TableFact c trace f t → RowFact c trace f.epoch t.group r → ((ino : ℕ) → (ino ≡ 0 → ⊥) → named_openers (with_open r t) (file_in t.group ino) ≡ named_openers t (file_in t.group ino)) → TableFact c trace f (with_open r t)
changed_table c trace f t r k fact same = record {
  started = k.started;
  early = k.early;
  early_here = k.early_here;
  early_only = k.early_only;
  all = k.all;
  rows = k.rows;
  rise = k.rise;
  files = files_like c trace f t t.early (with_latest open_key r t.opens) t.looks t.started k.files;
  opens = every_latest (RowFact c trace f.epoch t.group) open_key r t.opens fact k.opens;
  apart = apart_latest open_key r t.opens k.apart;
  has = λ i w. latest_found open_key (serial_key i) r t.opens (k.has i w);
  openers_are = λ ino some. same ino some ∙ k.openers_are ino some;
  turns = k.turns;
  looks = k.looks;
}

-- ---- serial numbers ----

serial_same : (a b : Serial) → a.us < 256 → b.us < 256 → serial_key a ≡ serial_key b → a ≡ b
serial_same a b low small e = λ i. record { us = us_is i; serial = serial_is i }
  where
    number : a.serial * 256 + a.us ≡ b.serial * 256 + b.us
    number = e

    us_is : a.us ≡ b.us
    us_is = omega (arith, low, small, number)

    serial_is : a.serial ≡ b.serial
    serial_is = omega (arith, low, small, number)

-- ---- the answer ----

asked_granted : (c : Config) (trace : List Line) (e : EpochId) (r : OpenRow) (d : CallId) (m : Mode) → IsFileMode m → AskedFact c trace e r d m → IsGrantedNow trace e r d
asked_granted c trace e r d mode.Make k a = absurd k
asked_granted c trace e r d mode.Read k a = a.0
asked_granted c trace e r d mode.Write k a = a.0
asked_granted c trace e r d mode.Resolve k a = a.0
asked_granted c trace e r d mode.Mend k a = a.0

asked_file : (c : Config) (trace : List Line) (e : EpochId) (r : OpenRow) (d : CallId) (m : Mode) → IsFileMode m → AskedFact c trace e r d m → AsItsFile c trace r d m
asked_file c trace e r d mode.Make k a = absurd k
asked_file c trace e r d mode.Read k a = (a.1.some.0, a.1.some.1, a.1.set_is, a.1.kind_is)
asked_file c trace e r d mode.Write k a = (a.1.some.0, a.1.some.1, a.1.set_is, a.1.kind_is)
asked_file c trace e r d mode.Resolve k a = (a.1.some.0, a.1.some.1, a.1.set_is, a.1.kind_is)
asked_file c trace e r d mode.Mend k a = (a.1.some.0, a.1.some.1, a.1.set_is, a.1.kind_is)

file_numbered : (m : Mode) (file : FileId) (ino : ℕ) → IsFileMode m → numbered_file m file ino ≡ file
file_numbered mode.Make file ino k = absurd k
file_numbered mode.Read file ino k = refl
file_numbered mode.Write file ino k = refl
file_numbered mode.Resolve file ino k = refl
file_numbered mode.Mend file ino k = refl

nothing_told : (f : Frame) (r : OpenRow) (m : Mode) → IsFileMode m → granted_at_last f r m ≡ []
nothing_told f r mode.Make k = absurd k
nothing_told f r mode.Read k = refl
nothing_told f r mode.Write k = refl
nothing_told f r mode.Resolve k = refl
nothing_told f r mode.Mend k = refl

module _ (c : Config) (n : ℕ) (trace : List Line) (f : Frame) (tab : SyncTable) (sv : Serving c n trace f tab) (from : ℕ) (inst : Serial) (low : inst.us < 256) where
  module _ (r : OpenRow) (found : open_row tab inst ≡ Some r) (file_mode : IsFileMode r.mode) where
    fact : RowFact c trace f.epoch tab.group r
    fact = row_every (RowFact c trace f.epoch tab.group) open_key (serial_key inst) tab.opens r sv.table.opens found

    key_is : open_key r ≡ serial_key inst
    key_is = row_key_is open_key (serial_key inst) tab.opens r found

    its : r.inst ≡ inst
    its = serial_same r.inst inst (small r.inst.us (subst (λ (s : ℕ). s < sites_max + 1) fact.is_call.site_is (sv.calls.narrow fact.call fact.is_call.caller fact.is_call.named))) low key_is
      where
        small : (s : ℕ) → s < sites_max + 1 → s < 256
        small s h = omega (arith, h)

    abbrev As : FileId → ℕ → OpenRow
    As file size = record r { stage = stage.Granted; file = file; size = size }

    as_granted : IsGrantedNow trace f.epoch r fact.call → AsItsFile c trace r fact.call r.mode → (file : FileId) (size : ℕ) → file ≡ r.file → BegunSize c trace f.epoch inst size → RowFact c trace f.epoch tab.group (As file size)
    as_granted k lies file size e sized = subst (λ (g : FileId). RowFact c trace f.epoch tab.group (As g size)) (sym e) (record {
      call = fact.call;
      is_call = fact.is_call;
      group_is = fact.group_is;
      stage = (record { was_granted = k.was_granted; unreleased = k.unreleased }, same_lies r.mode lies, size_is r.mode refl);
      vector_is = fact.vector_is;
      sees = fact.sees;
    })
      where
        same_lies : (m : Mode) → AsItsFile c trace r fact.call m → AsItsFile c trace (As r.file size) fact.call m
        same_lies mode.Make a = a
        same_lies mode.Read a = a
        same_lies mode.Write a = a
        same_lies mode.Resolve a = a
        same_lies mode.Mend a = a

        -- what is read has the bytes that its storage site found
        size_is : (m : Mode) → r.mode ≡ m → HasSize c trace r.file m r.stamp size
        size_is mode.Read is = sized fact.call r.request r.file r.stamp r.ss (subst (λ (m : Mode). WasGranted trace f.epoch fact.call r.request inst m r.file r.stamp r.ss) is (subst (λ (j : Serial). WasGranted trace f.epoch fact.call r.request j r.mode r.file r.stamp r.ss) its k.was_granted))
        size_is mode.Write is = tt
        size_is mode.Resolve is = tt
        size_is mode.Mend is = tt
        size_is mode.Make is = tt

    opened_fine : r.stage ≡ stage.Asked → (ino size : ℕ) → BegunSize c trace f.epoch inst size → TableFine c n trace f tab.group (grants_row f (granted_row r ino size) tab)
    opened_fine asked ino size sized = subst (λ (told : List Told). TableFine c n trace f tab.group (record { view = with_open new tab; sent = grants_user f new; told = told; written = None })) (sym (nothing_told f new r.mode file_mode))
        (sends_fine c n trace f tab (grants_user f new) (with_open new tab) refl (changed_table c trace f tab new sv.table now (λ ino some. openers_same (file_in tab.group ino))) (again c trace f tab.group new now stage.Granted now.stage))
      where
        new : OpenRow
        new = granted_row r ino size

        file_is : numbered_file r.mode r.file ino ≡ r.file
        file_is = file_numbered r.mode r.file ino file_mode

        now : RowFact c trace f.epoch tab.group new
        now = as_granted (asked_granted c trace f.epoch r fact.call r.mode file_mode (subst (StageFact c trace f.epoch r fact.call) asked fact.stage)) (asked_file c trace f.epoch r fact.call r.mode file_mode (subst (StageFact c trace f.epoch r fact.call) asked fact.stage)) (numbered_file r.mode r.file ino) size file_is sized

        openers_same : (file : FileId) → named_openers (with_open new tab) file ≡ named_openers tab file
        openers_same file = openers_replaced open_key (is_open_on file) named_row new r tab.opens (ap (λ (k : ℕ). row open_key k tab.opens) key_is ∙ found)
            (over file_is ∙ sym (ap (λ (s : OpenStage). is_open_on file (record r { stage = s })) asked)) refl
          where
            over : numbered_file r.mode r.file ino ≡ r.file → is_open_on file new ≡ is_open_on file (record r { stage = stage.Asked })
            over e = ap (λ (g : FileId). is_open_on file (record r { stage = stage.Asked; file = g })) e

    -- no storage site refuses what was granted
    refused_never : r.stage ≡ stage.Asked → (why : Refusal) → OpenedFact c trace f.epoch from inst (opened.No why) → ⊥
    refused_never asked why k = over k.1.make
      where
        was : WasGranted trace f.epoch fact.call r.request inst r.mode r.file r.stamp r.ss
        was = subst (λ (j : Serial). WasGranted trace f.epoch fact.call r.request j r.mode r.file r.stamp r.ss) its (asked_granted c trace f.epoch r fact.call r.mode file_mode (subst (StageFact c trace f.epoch r fact.call) asked fact.stage)).was_granted

        over : RefusedFull c trace f.epoch from inst k.1.group ⊎ MakesNow c trace f.epoch from inst k.1.group k.1.set k.1.kind → ⊥
        over (inl z) = one_answer c f.epoch inst z.call fact.call z.request r.request mode.Make _ r.mode r.file r.stamp r.ss trace sv.followed z.was_refused was
        over (inr z) = unnamed c trace f.epoch z.call z.request inst z.file (how.Make k.1.set k.1.kind) sv.followed z.asks z.user_is (granted_named trace f.epoch fact.call r.request inst r.mode r.file r.stamp r.ss was)

    by_stage_fine : (a : OpenedAs) → OpenedFact c trace f.epoch from inst a → (s : OpenStage) → r.stage ≡ s → TableFine c n trace f tab.group (by_stage f r a s tab)
    by_stage_fine (opened.Open ino size) k stage.Asked e = opened_fine e ino size k.3
    by_stage_fine (opened.No why) k stage.Asked e = absurd (refused_never e why k)
    by_stage_fine a k stage.Granted e = sends_fine c n trace f tab [] tab refl sv.table tt
    by_stage_fine a k (stage.Refused why) e = sends_fine c n trace f tab [] tab refl sv.table tt
    by_stage_fine a k stage.Ended e = sends_fine c n trace f tab [] tab refl sv.table tt

  pub answered_fine : (a : OpenedAs) → OpenedFact c trace f.epoch from inst a → ((r : OpenRow) → open_row tab inst ≡ Some r → IsFileMode r.mode) → TableFine c n trace f tab.group (on_opened f inst a tab)
  answered_fine a k plain = over (open_row tab inst) refl
    where
      over : (o : Option OpenRow) → open_row tab inst ≡ o → TableFine c n trace f tab.group (on_opened_of f a o tab)
      over None e = sends_fine c n trace f tab [] tab refl sv.table tt
      over (Some r) e = by_stage_fine r e (plain r e) a k r.stage refl
