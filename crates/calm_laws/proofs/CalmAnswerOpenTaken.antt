-- An open that a table takes is handed on: its storage site is asked, or it is answered; and the table has all that it had.
use Rattle.std.proofs.Common.{◌≡◌, ℕ, ◌==◌, ◌⊎◌, Bool, true, false, ◌||◌, cond, List, [], ◌∷◌, ◌++◌, Option, Some, None, refl, sym, ◌∙◌, ap, subst, inl, inr}
use Rattle.std.specs.List.{list_any}
use Rattle.std.specs.Option.{is_some}
use Rattle.role_steps.proofs.of_plain_facts.Numbers.{equal_test}
use Rattle.role_steps.proofs.of_plain_facts.Options.{none_some}
use Rattle.role_steps.proofs.of_plain_facts.Tests.{true_false}
use Rattle.locus_ids.specs.declared.config.Config.{Config}
use Rattle.locus_ids.specs.declared.ids.EpochId.{EpochId}
use Rattle.locus_ids.specs.declared.ids.Serial.{Serial}
use Rattle.trace_book.specs.Same.{same_serial}
use Rattle.wire_messages.specs.declared.body.Body.{Body}
use Rattle.wire_messages.specs.declared.body.Body.TheVariants as body
use Rattle.wire_messages.specs.declared.body.Granted.{Granted}
use Rattle.wire_messages.specs.declared.body.Granted.TheVariants as granted
use Rattle.wire_messages.specs.declared.packet.Packet.{Packet}
use Rattle.role_steps.specs.Opens.{OpenRequest, Decision, Denies, Grants, decision, decides, denied_row, asked_row, on_open_of, takes_open, open_key, open_row, with_open, repeats_open, stamp_or_none}
use Rattle.role_steps.specs.Reports.{is_early_of, waits_early}
use Rattle.role_steps.specs.Tables.{row, with_latest}
use Rattle.role_steps.specs.Views.{Frame, Outcome, boot_in, packet, serial_key}
use Rattle.role_steps.specs.declared.rounds.InEpoch.{InEpoch}
use Rattle.role_steps.specs.declared.synchronizing.Early.{Early}
use Rattle.role_steps.specs.declared.synchronizing.OpenRow.{OpenRow}
use Rattle.role_steps.specs.declared.synchronizing.OpenStage.{OpenStage}
use Rattle.role_steps.specs.declared.synchronizing.OpenStage.TheVariants as stage
use Rattle.role_steps.specs.declared.synchronizing.SyncTable.{SyncTable}
use Rattle.the_run.specs.Kept.{Among}
use Rattle.the_run.proofs.Boots.{at_each}
use Rattle.tree_laws.proofs.Names.{same_serial_eq, same_serial_own}
use Rattle.store_laws.proofs.Tabled.{latest_other}
use Rattle.tree_laws.proofs.Syncs.Adding.{latest_same}
use Rattle.row_laws.proofs.Orderly.Formed.{among_left}
use Rattle.calm_laws.specs.TablesCalm.Shapes.{RowShape, TableShape}
use Rattle.calm_laws.proofs.TablesCalm.Shaping.{Placed, decision_placed}
use Rattle.calm_laws.specs.Carrying.{IsMember, frame_of, Goes, own_serial, opening_body, AnswersOpen}
use Rattle.calm_laws.proofs.Lists.{every_among, row_key}
use Rattle.calm_laws.proofs.CalmAnswerTurning.{Grows}

-- ---- rows ----

-- a row with the key is found
pub row_some : (key : ℕ) (r : OpenRow) (xs : List OpenRow) → Among r xs → open_key r ≡ key → is_some (row open_key key xs) ≡ true
row_some key r [] a e = absurd a
row_some key r (x ∷ xs) a e = over (open_key x == key) refl (row_some key r xs) a
  where
    test : (i j : ℕ) → i ≡ j → (i == j) ≡ false → ⊥
    test i j same q = true_false (sym (equal_test i j same) ∙ q)

    over : (b : Bool) → (open_key x == key) ≡ b → (Among r xs → open_key r ≡ key → is_some (row open_key key xs) ≡ true) → Among r (x ∷ xs) → is_some (elim b as (λ (z : Bool). Option OpenRow) [ true ↦ Some x | false ↦ row open_key key xs ]) ≡ true
    over true q later b = refl
    over false q later (inl same) = absurd (test (open_key x) key (ap open_key (sym same) ∙ e) q)
    over false q later (inr b) = later b e

-- it is in the table
pub opened_in : (i : Serial) (r : OpenRow) (xs : List OpenRow) → Among r xs → r.inst ≡ i → list_any (λ (x : OpenRow). same_serial x.inst i) xs ≡ true
opened_in i r [] a e = absurd a
opened_in i r (x ∷ xs) (inl same) e = ap (λ (b : Bool). b || list_any (λ (y : OpenRow). same_serial y.inst i) xs) (subst (λ (j : Serial). same_serial x.inst j ≡ true) (ap (λ (y : OpenRow). y.inst) (sym same) ∙ e) (same_serial_own x.inst))
opened_in i r (x ∷ xs) (inr b) e = either (same_serial x.inst i) _ (opened_in i r xs b e)
  where
    either : (p q : Bool) → q ≡ true → (p || q) ≡ true
    either true q z = refl
    either false q z = z

-- a new row is put last
any_added : (q : OpenRow) (i : Serial) (xs : List OpenRow) → row open_key (open_key q) xs ≡ None → same_serial q.inst i ≡ false → list_any (λ (x : OpenRow). same_serial x.inst i) (with_latest open_key q xs) ≡ list_any (λ (x : OpenRow). same_serial x.inst i) xs
any_added q i [] none other = ap (λ (b : Bool). b || false) other
any_added q i (x ∷ xs) none other = over (open_key x == open_key q) (λ z. any_added q i xs z other) none
  where
    some_none : ◌≡◌ {A = Option OpenRow} (Some x) None → ⊥
    some_none z = cc

    over : (b : Bool) → (row open_key (open_key q) xs ≡ None → list_any (λ (y : OpenRow). same_serial y.inst i) (with_latest open_key q xs) ≡ list_any (λ (y : OpenRow). same_serial y.inst i) xs) → ◌≡◌ {A = Option OpenRow} (elim b [ true ↦ Some x | false ↦ row open_key (open_key q) xs ]) None →
        list_any (λ (y : OpenRow). same_serial y.inst i) (elim b [ true ↦ q ∷ xs | false ↦ x ∷ with_latest open_key q xs ]) ≡ list_any (λ (y : OpenRow). same_serial y.inst i) (x ∷ xs)
    over true later z = absurd (some_none z)
    over false later z = ap (λ (b : Bool). same_serial x.inst i || b) (later z)

-- ---- the table grows ----

module _ (known : Serial → Type 0) (hand : Early → Type 0) where
  pub grows_itself : (t : SyncTable) → Grows known hand t t
  grows_itself t = record { group = refl; reported = λ s h. h; opened = λ i k. refl; rows = λ i r e a. e; held = λ z x a. inl (z, a) }

  -- by what a started one takes
  pub grows_then : (t n k : SyncTable) → Grows known hand t n → n.started ≡ true → Grows known hand n k → Grows known hand t k
  grows_then t n k a started b = record {
    group = b.group ∙ a.group;
    reported = λ s h. b.reported s (a.reported s h);
    opened = λ i z. b.opened i z ∙ a.opened i z;
    rows = λ i r e z. b.rows i r (a.rows i r e z) z;
    held = λ z x m. over x (a.held z x m);
  }
    where
      over : (x : Early) → ((n.started ≡ false) × Among x n.early) ⊎ hand x → ((k.started ≡ false) × Among x k.early) ⊎ hand x
      over x (inl h) = absurd (true_false (sym started ∙ h.0))
      over x (inr h) = inr h

  added : (q : OpenRow) (t : SyncTable) → t.started ≡ true → row open_key (open_key q) t.opens ≡ None → (known q.inst → is_some (row open_key (open_key q) t.opens) ≡ true) → Grows known hand t (with_open q t)
  added q t started none fresh = record {
    group = refl;
    reported = λ s h. h;
    opened = λ i k. any_added q i t.opens none (apart i k (same_serial q.inst i) refl);
    rows = λ i r e a. at_each (open_key q) (serial_key i) (open_row (with_open q t) i ≡ Some r) (λ eq. absurd (none_some r (sym none ∙ (ap (λ (key : ℕ). row open_key key t.opens) eq ∙ e)))) (λ ne. latest_other open_key q (serial_key i) t.opens ne ∙ e);
    held = λ z x a. absurd (true_false (sym started ∙ z));
  }
    where
      not_some : is_some (row open_key (open_key q) t.opens) ≡ true → ⊥
      not_some z = true_false (sym z ∙ ap is_some none)

      apart : (i : Serial) → known i → (b : Bool) → same_serial q.inst i ≡ b → same_serial q.inst i ≡ false
      apart i k true e = absurd (not_some (fresh (subst known (sym (same_serial_eq q.inst i e)) k)))
      apart i k false e = e

  abbrev GrowsBy : SyncTable → Outcome SyncTable → Type 0
  GrowsBy t o = Grows known hand t o.view

  decided_grows : (f : Frame) (t : SyncTable) (us : ℕ) (o : OpenRequest) (d : Decision) → t.started ≡ true → open_row t (own_serial us o.serial) ≡ None → (known (own_serial us o.serial) → is_some (open_row t (own_serial us o.serial)) ≡ true) → GrowsBy t (decides f t us o d)
  decided_grows f t us o (Denies why) started none fresh = added (denied_row us o why) t started none fresh
  decided_grows f t us o (Grants ss stamp vector parents set k) started none fresh = added (asked_row us o ss stamp vector parents set k) t started none fresh

  pub open_grows : (f : Frame) (us : ℕ) (o : OpenRequest) (t : SyncTable) → t.started ≡ true → (known (own_serial us o.serial) → is_some (open_row t (own_serial us o.serial)) ≡ true) → GrowsBy t (takes_open f us o t)
  open_grows f us o t started fresh = over (open_row t (own_serial us o.serial)) refl
    where
      over : (r : Option OpenRow) → open_row t (own_serial us o.serial) ≡ r → GrowsBy t (on_open_of f t us o r)
      over None e = decided_grows f t us o (decision f t us o o.how) started e fresh
      over (Some r) e = grows_itself t

  -- before the start it waits
  pub wait_grows : (site process : ℕ) (b : Body) (t : SyncTable) → Grows known hand t (waits_early site process b t)
  wait_grows site process b t = over (list_any (is_early_of site process) t.early)
    where
      over : (x : Bool) → Grows known hand t (cond x t (record t { early = t.early ++ record { site = site; process = process; body = b } ∷ [] }))
      over true = grows_itself t
      over false = record { group = refl; reported = λ s h. h; opened = λ i k. refl; rows = λ i r e a. e; held = λ z x a. inl (z, among_left x t.early _ a) }

-- ---- the start stays ----

pub open_started : (f : Frame) (us : ℕ) (o : OpenRequest) (t : SyncTable) → (takes_open f us o t).view.started ≡ t.started
open_started f us o t = by_row (open_row t (own_serial us o.serial))
  where
    by_decision : (d : Decision) → (decides f t us o d).view.started ≡ t.started
    by_decision (Denies why) = refl
    by_decision (Grants ss stamp vector parents set k) = refl

    by_row : (r : Option OpenRow) → (on_open_of f t us o r).view.started ≡ t.started
    by_row None = by_decision (decision f t us o o.how)
    by_row (Some r) = refl

-- ---- it is handed on ----

-- the storage site of the row is asked
pub record AsksStorage (c : Config) (e : InEpoch) (css : ℕ) (inst : Serial) (n : SyncTable) (p : Packet) : Type 0 where
  pub row : OpenRow
  pub found : open_row n inst ≡ Some row
  pub name : row.inst ≡ inst
  pub asked : row.stage ≡ stage.Asked
  pub goes : Goes c e css row.ss (opening_body row) p

pub record OpensOn (c : Config) (e : InEpoch) (css s serial : ℕ) (n : SyncTable) (sent : List Packet) : Type 0 where
  pub letter : Packet
  pub there : Among letter sent
  pub carries : AnswersOpen c e s serial css letter ⊎ AsksStorage c e css (own_serial s serial) n letter

-- so it stays while the table grows and more is sent
pub opens_later : (c : Config) (e : InEpoch) (css s serial : ℕ) (known : Serial → Type 0) (hand : Early → Type 0) (n k : SyncTable) (sent later : List Packet) → Grows known hand n k → ((p : Packet) → Among p sent → Among p later) → OpensOn c e css s serial n sent → OpensOn c e css s serial k later
opens_later c e css s serial known hand n k sent later g more h = record { letter = h.letter; there = more h.letter h.there; carries = over h.carries }
  where
    over : AnswersOpen c e s serial css h.letter ⊎ AsksStorage c e css (own_serial s serial) n h.letter → AnswersOpen c e s serial css h.letter ⊎ AsksStorage c e css (own_serial s serial) k h.letter
    over (inl a) = inl a
    over (inr a) = inr (record { row = a.row; found = g.rows (own_serial s serial) a.row a.found a.asked; name = a.name; asked = a.asked; goes = a.goes })

module _ (c : Config) (e : InEpoch) (css s : ℕ) (o : OpenRequest) (own : IsMember e css) (member : IsMember e s) (named : EpochId → ℕ → Serial → Type 0) (came : EpochId → ℕ → Body → Type 0) (t : SyncTable) (shape : TableShape c css e named came t) where
  abbrev f : Frame
  f = frame_of c e css

  abbrev inst : Serial
  inst = own_serial s o.serial

  abbrev On : Outcome SyncTable → Type 0
  On u = OpensOn c e css s o.serial u.view u.sent

  answered : (a : Granted) (n : SyncTable) (p : Packet) → p ≡ packet f s (body.OpenDone o.serial a) → OpensOn c e css s o.serial n (p ∷ [])
  answered a n p is = record { letter = p; there = inl refl; carries = inl (record { answer = a; goes = record { sender = own; receiver = member; is = is } }) }

  decided : (d : Decision) → Placed c css (boot_in e.members.boot css) e named came d → On (decides f t s o d)
  decided (Denies why) h = answered (granted.No why) (decides f t s o (Denies why)).view (packet f s (body.OpenDone o.serial (granted.No why))) refl
  decided (Grants ss stamp vector parents set k) h = record { letter = packet f ss (opening_body r); there = inl refl; carries = inr (record { row = r; found = latest_same open_key r t.opens; name = refl; asked = refl; goes = record { sender = own; receiver = h; is = refl } }) }
    where
      r : OpenRow
      r = asked_row s o ss stamp vector parents set k

  repeated : (r : OpenRow) (g : OpenStage) → open_row t inst ≡ Some r → r.inst ≡ inst → (r.stage ≡ stage.Ended → ⊥) → r.stage ≡ g → OpensOn c e css s o.serial t (repeats_open f r g)
  repeated r stage.Asked found name past is = record { letter = packet f r.ss (opening_body r); there = inl refl; carries = inr (record { row = r; found = found; name = name; asked = is; goes = record { sender = own; receiver = placed; is = refl } }) }
    where
      placed : IsMember e r.ss
      placed = (every_among (RowShape e (named e.id t.group) t.group) r t.opens (row_key open_key (serial_key inst) t.opens r found).0 shape.opens).asked is
  repeated r stage.Granted found name past is = answered (granted.Open r.ss r.file.ino r.size (stamp_or_none r.stamp) r.vector) t (packet f r.inst.us (body.OpenDone r.inst.serial (granted.Open r.ss r.file.ino r.size (stamp_or_none r.stamp) r.vector)))
      (λ j. packet f (name j).us (body.OpenDone (name j).serial (granted.Open r.ss r.file.ino r.size (stamp_or_none r.stamp) r.vector)))
  repeated r (stage.Refused why) found name past is = answered (granted.No why) t (packet f r.inst.us (body.OpenDone r.inst.serial (granted.No why))) (λ j. packet f (name j).us (body.OpenDone (name j).serial (granted.No why)))
  repeated r stage.Ended found name past is = absurd (past is)

  pub open_taken : ((r : OpenRow) → open_row t inst ≡ Some r → (r.inst ≡ inst) × (r.stage ≡ stage.Ended → ⊥)) → On (takes_open f s o t)
  open_taken well = over (open_row t inst) refl
    where
      over : (r : Option OpenRow) → open_row t inst ≡ r → On (on_open_of f t s o r)
      over None z = decided (decision f t s o o.how) (decision_placed c css (boot_in e.members.boot css) e named came t s o o.how shape)
      over (Some r) z = (let w : (r.inst ≡ inst) × (r.stage ≡ stage.Ended → ⊥) = well r z in repeated r r.stage z w.0 w.1 refl)
