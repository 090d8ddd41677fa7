-- A call that removes a name has seen the version on which it has the file open.
use Rattle.std.proofs.Common.{◌≡◌, ℕ, ◌==◌, Bool, true, false, not, ◌&&◌, List, [], ◌∷◌, ◌++◌, append-nil, Option, Some, None, refl, sym, ◌∙◌, ap, subst, inl, inr}
use Rattle.std.specs.List.{find}
use Rattle.std.specs.Option.{is_none, is_some}
use Rattle.role_steps.proofs.of_plain_facts.Numbers.{equal, equal_self}
use Rattle.role_steps.proofs.of_plain_facts.Options.{some_same}
use Rattle.role_steps.proofs.of_plain_facts.Tests.{and_first, and_second, true_false}
use Rattle.locus_ids.specs.declared.config.Config.{Config}
use Rattle.locus_ids.specs.declared.ids.CallId.{CallId}
use Rattle.locus_ids.specs.declared.ids.EpochId.{EpochId}
use Rattle.locus_ids.specs.declared.ids.FileId.{FileId}
use Rattle.locus_ids.specs.declared.ids.Mode.{Mode}
use Rattle.locus_ids.specs.declared.ids.Mode.TheVariants as mode
use Rattle.locus_ids.specs.declared.ids.Serial.{Serial}
use Rattle.locus_ids.specs.declared.ids.Stamp.{Stamp}
use Rattle.commit_graph.specs.Grants.{is_read}
use Rattle.commit_graph.specs.Vectors.{vector_of}
use Rattle.commit_graph.specs.declared.history.Version.{Version}
use Rattle.trace_book.specs.Same.{same_call, same_serial}
use Rattle.trace_book.specs.declared.descriptor.Beginning.{Beginning}
use Rattle.trace_book.specs.declared.descriptor.Beginning.TheVariants as begins
use Rattle.trace_book.specs.declared.operation.Op.{Op}
use Rattle.trace_book.specs.declared.operation.Op.TheVariants as op
use Rattle.trace_book.specs.declared.operation.Outcome.{Outcome}
use Rattle.trace_book.specs.declared.operation.Outcome.TheVariants as outcome
use Rattle.trace_book.specs.declared.record.Record.TheVariants as says
use Rattle.call_rules.specs.declared.answer.Answer.{Answer}
use Rattle.call_rules.specs.declared.answer.Answer.TheVariants as answer
use Rattle.call_rules.specs.declared.want.Want.{Want}
use Rattle.call_rules.specs.declared.want.Want.TheVariants as want
use Rattle.role_steps.specs.Requests.{instance_serial, opened_serial, seen_by, user_instance, vector_in, vector_opened}
use Rattle.role_steps.specs.Views.{Frame, Shown, Told, Users}
use Rattle.role_steps.specs.declared.users.UserInstance.{UserInstance}
use Rattle.role_steps.specs.declared.users.WaitingCall.{WaitingCall}
use Rattle.the_run.specs.Kept.{Among}
use Rattle.the_run.specs.Worlds.{Line}
use Rattle.tree_model.specs.Calls.{waiting}
use Rattle.tree_model.specs.Epochs.{epoch_of}
use Rattle.tree_model.specs.Given.{gives_grant}
use Rattle.tree_model.specs.Histories.{history}
use Rattle.tree_model.specs.Opening.{is_only, open_refusal}
use Rattle.tree_model.specs.Same.{same_version}
use Rattle.tree_model.specs.State.{TreeState, has_number, held_at, instance_in, is_granted, is_named, kept_of}
use Rattle.tree_model.specs.Tree.{tree_of}
use Rattle.tree_model.specs.Working.{is_target}
use Rattle.tree_model.specs.declared.accepted.Waiting.{Waiting}
use Rattle.tree_model.specs.declared.instance.Instance.{Instance}
use Rattle.tree_laws.specs.of_lawful_trace.CallRows.{is_this}
use Rattle.tree_laws.specs.of_lawful_trace.Tables.{begun, has_named}
use Rattle.tree_laws.specs.of_lawful_trace.TreeRows.{IsCallIn, granted_group}
use Rattle.tree_laws.specs.Printed.{entries}
use Rattle.tree_laws.specs.Calls.{Asks, is_request, log, script, script_as}
use Rattle.tree_laws.specs.Following.{IsFollowed, MayTell}
use Rattle.tree_laws.specs.Holding.{Instances, IsOf, closed_by, has_instances}
use Rattle.tree_laws.specs.Instances.{Stands, instance_now}
use Rattle.tree_laws.specs.Packets.{SeesTarget, SeesVersion, serial_of}
use Rattle.tree_laws.specs.Past.{GrantRecord, Printed, WasDone, WasGranted}
use Rattle.tree_laws.specs.Users.{had}
use Rattle.tree_laws.proofs.Answered.{asker_unnamed}
use Rattle.tree_laws.proofs.Names.{same_call_own, same_serial_own}
use Rattle.tree_laws.proofs.OfOwn.{asks_of_own}
use Rattle.tree_laws.proofs.Owing.{InGroup, found_every, in_group}
use Rattle.tree_laws.proofs.Rows.{followed_rows}
use Rattle.tree_laws.proofs.Waiting.{found_among}
use Rattle.tree_laws.specs.Orders.Alone.{AreAlone}
use Rattle.tree_laws.proofs.Orders.Alone.{rows_apart}
use Rattle.tree_laws.proofs.Orders.Keeping.{file_eq}
use Rattle.tree_laws.proofs.Orders.ProcessOpen.{OpenAs, granted_open}
use Rattle.tree_laws.proofs.Orders.ProcessTaken.{all_had}
use Rattle.tree_laws.proofs.Orders.ProcessUnreleased.{unreleased}
use Rattle.store_laws.proofs.Holdings.MendWhole.{all_safe}
use Rattle.store_laws.specs.Users.Turning.{it, InstanceTurns, Turning}
use Rattle.store_laws.proofs.Users.Tabled.{every_among, row_found}
use Rattle.store_laws.proofs.ScriptUntouched.{untouched}
use Rattle.store_laws.proofs.AnswerDone.{done_named}
use Rattle.store_laws.proofs.OneTree.RemovePlaced.{DoneSo, Taken, done_placed, taken_so}
use Rattle.store_laws.proofs.OneTree.RemoveScripts.{Along, DirSo, IsMild, OpensSo, Removal, along_at, script_removal, uses_remove_none}
use Rattle.store_laws.proofs.OneTree.RemoveSeen.{IsWritten, alone_one, among_of, found_some, is_written}

-- ---- an open to write is granted on a version ----

only_kept : (h : List Version) (t : TreeState) (call : CallId) (i : Serial) (f : FileId) (stamp : Option Stamp) (place : ℕ) → gives_grant h t call i mode.Write f stamp place ≡ true → is_only (kept_of h t f) stamp ≡ true
only_kept h t call i f stamp place g = and_first (is_only (kept_of h t f) stamp) (same_version (held_at t place f.ino) stamp) (and_second (not (is_granted t i)) _ (and_second (i.us == call.site) _ (and_second (is_none (open_refusal h t mode.Write call f)) _ (and_second t.started _ g))))

stamped : (c : Config) (t : List Line) → IsFollowed c t → (e : EpochId) (g : CallId) (request : ℕ) (i : Serial) (f : FileId) (stamp : Option Stamp) (ss : ℕ) → WasGranted t e g request i mode.Write f stamp ss → (s : Stamp) × (stamp ≡ Some s)
stamped c [] h e g request i f stamp ss was = absurd was
stamped c (y ∷ older) h e g request i f stamp ss (inr was) = stamped c older h.1 e g request i f stamp ss was
stamped c (y ∷ older) h e g request i f stamp ss (inl now) = over y.told h.0 now
  where
    some : (on : Option Stamp) → is_only (kept_of (history c (entries older)) (tree_of c e f.group (entries older)) f) on ≡ true → (s : Stamp) × (on ≡ Some s)
    some None q = absurd (none (kept_of (history c (entries older)) (tree_of c e f.group (entries older)) f) q)
      where
        none : (ks : List Stamp) → is_only ks None ≡ true → ⊥
        none [] q = true_false (sym q)
        none (k ∷ []) q = true_false (sym q)
        none (k ∷ l ∷ ks) q = true_false (sym q)
    some (Some s) q = (s, refl)

    over : (x : Told) → MayTell c older x → Printed (GrantRecord e g request i mode.Write f stamp ss) older x → (s : Stamp) × (stamp ≡ Some s)
    over (Shown (says.Grant at call number inst md file on place)) may p = some stamp (only_kept (history c (entries older)) (tree_of c e f.group (entries older)) call inst f stamp place moved)
      where
        gives : gives_grant (history c (entries older)) (tree_of c at file.group (entries older)) call inst md file on place ≡ true
        gives = may.row.gives

        moved : gives_grant (history c (entries older)) (tree_of c e f.group (entries older)) call inst mode.Write f stamp place ≡ true
        moved = subst (λ (z : EpochId). gives_grant (history c (entries older)) (tree_of c z f.group (entries older)) call inst mode.Write f stamp place ≡ true) p.epoch_is
            (subst (λ (z : FileId). gives_grant (history c (entries older)) (tree_of c at z.group (entries older)) call inst mode.Write z stamp place ≡ true) p.file_is
            (subst (λ (z : Mode). gives_grant (history c (entries older)) (tree_of c at file.group (entries older)) call inst z file stamp place ≡ true) p.mode_is
            (subst (λ (z : Option Stamp). gives_grant (history c (entries older)) (tree_of c at file.group (entries older)) call inst md file z place ≡ true) p.stamp_is gives)))
    over (Shown r) may p = absurd p
    over x may p = absurd p

-- ---- what a remove has seen ----

module _ (c : Config) (t : List Line) (f : Frame) (w : WaitingCall) (u : Users) (i : Serial) (name : List ℕ) (ino : ℕ) (h : IsFollowed c t) (now : epoch_of (entries t) f.me ≡ Some f.epoch) (k : Turning c t f w u) (asks : Asks c t (it f w) (want.Do i (op.Remove name ino))) where
  abbrev d : CallId
  d = it f w

  abbrev e : EpochId
  e = f.epoch

  inside : IsCallIn (entries t) e d
  inside = record { accepted = k.call.caller; named = k.call.named; made_in = ap (λ (x : Waiting). x.epoch) k.call.caller_is }

  asked_so : script_as c (entries t) (Some k.call.caller) (begun (entries t) d) None (log t d) ≡ want.Do i (op.Remove name ino)
  asked_so = subst (λ (o : Option Waiting). script_as c (entries t) o (begun (entries t) d) None (log t d) ≡ want.Do i (op.Remove name ino)) k.call.named asks.asked

  walks : (j : Serial) → begun (entries t) d ≡ Some (begins.Uses e j) → ⊥
  walks j b = uses_remove_none c (entries t) k.call.caller e j i name ino (log t d) (subst (λ (o : Option Beginning). script_as c (entries t) (Some k.call.caller) o None (log t d) ≡ want.Do i (op.Remove name ino)) b asked_so)

  r : Removal (λ xs. script c (entries t) d None xs) (log t d) i ino
  r = subst (λ (o : Option Waiting). Removal (λ xs. script_as c (entries t) o (begun (entries t) d) None xs) (log t d) i ino) (sym k.call.named) (script_removal c (entries t) k.call.caller (begun (entries t) d) i name ino (log t d) asked_so)

  abbrev own : Instances
  own = has_instances c t d

  -- what it closes next it has
  has_both : (not (same_serial i r.target) && own r.target) ≡ true
  has_both = sym (ap (λ (v : Want). closed_by v (λ (j : Serial). closed_by first own j) r.target) (r.closes_dir outcome.Done) ∙ ap (λ (v : Want). not (same_serial i r.target) && closed_by v own r.target) start)
      ∙ subst (IsOf (λ (j : Serial). closed_by second (λ (l : Serial). closed_by first own l) j)) (r.closes_target outcome.Done None) (all_safe c t h d (inside.accepted, inside.named) (answer.Did outcome.Done ∷ answer.Ended None ∷ []) tt tt)
    where
      first : Want
      first = script c (entries t) d None (log t d ++ [])

      second : Want
      second = script c (entries t) d None (log t d ++ answer.Did outcome.Done ∷ [])

      start : first ≡ want.Do i (op.Remove name ino)
      start = ap (script c (entries t) d None) (append-nil (log t d)) ∙ asks.asked

  has_target : own r.target ≡ true
  has_target = and_second (not (same_serial i r.target)) (own r.target) has_both

  apart : r.target ≡ i → ⊥
  apart same = true_false (sym (and_first (not (same_serial i r.target)) (own r.target) has_both) ∙ ap not (subst (λ (j : Serial). same_serial i j ≡ true) (sym same) (same_serial_own i)))

  has_dir : own i ≡ true
  has_dir = subst (IsOf own) asks.asked (asks_of_own c t d h (inside.accepted, inside.named))

  in_dir : IsWritten c t e d i r.dir r.number
  in_dir = is_written c t h e d inside (want.Do i (op.Remove name ino)) asks walks i r.dir r.number has_dir
      (λ xs ys a same o. (along_at (DirSo i r.dir r.number) (λ zs. script c (entries t) d None zs) xs a ys (subst (Along (DirSo i r.dir r.number) (λ zs. script c (entries t) d None zs)) same (r.on_dir apart))).opens o)

  abbrev file : FileId
  file = record { group = r.dir.group; ino = ino }

  before : (xs ys : List Answer) (a : Answer) → log t d ≡ xs ++ a ∷ ys → OpensSo r.target file r.found (script c (entries t) d None xs) a
  before xs ys a same = along_at (OpensSo r.target file r.found) (λ zs. script c (entries t) d None zs) xs a ys (subst (Along (OpensSo r.target file r.found) (λ zs. script c (entries t) d None zs)) same (r.on_target apart))

  in_target : IsWritten c t e d r.target file r.found
  in_target = is_written c t h e d inside (want.Do i (op.Remove name ino)) asks walks r.target file r.found has_target (λ xs ys a same o. (before xs ys a same).opens o)

  -- ---- in the tree ----

  group_of : (j : Serial) (x : Instance) → instance_now c t e j ≡ Some x → x.grant.file.group ≡ granted_group (entries t) e j
  group_of j x found = found_every (InGroup (granted_group (entries t) e j)) (is_named j) (tree_of c e (granted_group (entries t) e j) (entries t)).instances x found (in_group c e (granted_group (entries t) e j) (entries t))

  abbrev here : List Instance
  here = (tree_of c e in_dir.at.grant.file.group (entries t)).instances

  dir_among : Among in_dir.at here
  dir_among = (among_of (is_named i) here in_dir.at (subst (λ (g : ℕ). instance_in (tree_of c e g (entries t)) i ≡ Some in_dir.at) (sym (group_of i in_dir.at in_dir.found)) in_dir.found)).0

  group_same : granted_group (entries t) e r.target ≡ in_dir.at.grant.file.group
  group_same = sym (group_of r.target in_target.at in_target.found) ∙ (ap (λ (x : FileId). x.group) in_target.file_is ∙ ap (λ (x : FileId). x.group) (sym in_dir.file_is))

  target_among : Among in_target.at here
  target_among = (among_of (is_named r.target) here in_target.at (subst (λ (g : ℕ). instance_in (tree_of c e g (entries t)) r.target ≡ Some in_target.at) group_same in_target.found)).0

  alone : AreAlone here
  alone = (rows_apart c (entries t) (followed_rows c t h) e in_dir.at.grant.file.group).alone

  writes : is_read in_target.at.grant.mode ≡ false
  writes = ap is_read in_target.mode_is

  -- the directory has another number
  other : (r.number == ino) ≡ false
  other = over (r.number == ino) refl
    where
      over : (b : Bool) → (r.number == ino) ≡ b → (r.number == ino) ≡ false
      over false q = q
      over true q = absurd (apart (sym in_target.serial_is ∙ (ap (λ (x : Instance). x.grant.inst) (sym one) ∙ in_dir.serial_is)))
        where
          same : in_target.at.grant.file ≡ in_dir.at.grant.file
          same = in_target.file_is ∙ (ap (λ (m : ℕ). record { group = r.dir.group; ino = m }) (sym (equal r.number ino q) ∙ in_dir.number_is) ∙ sym in_dir.file_is)

          one : in_dir.at ≡ in_target.at
          one = alone_one here in_target.at in_dir.at alone target_among dir_among same writes

  mine : is_target d ino in_target.at ≡ true
  mine = both (same_call in_target.at.grant.call d) (in_target.at.grant.file.ino == ino) (subst (λ (x : CallId). same_call x d ≡ true) (sym in_target.call_is) (same_call_own d)) (subst (λ (x : FileId). (x.ino == ino) ≡ true) (sym in_target.file_is) (equal_self ino))
    where
      both : (a b : Bool) → a ≡ true → b ≡ true → (a && b) ≡ true
      both true true p q = refl
      both true false p q = absurd (true_false (sym q))
      both false b p q = absurd (true_false (sym p))

  found_first : (y : Instance) × (find (is_target d ino) here ≡ Some y)
  found_first = found_some (is_target d ino) in_target.at here target_among mine

  is_first : find (is_target d ino) here ≡ Some in_target.at
  is_first = found_first.1 ∙ ap Some (alone_one here in_target.at found_first.0 alone target_among of.0 (sym same) writes)
    where
      of : Among found_first.0 here × (is_target d ino found_first.0 ≡ true)
      of = among_of (is_target d ino) here found_first.0 found_first.1

      group : found_first.0.grant.file.group ≡ in_dir.at.grant.file.group
      group = found_every (InGroup in_dir.at.grant.file.group) (is_target d ino) here found_first.0 found_first.1 (in_group c e in_dir.at.grant.file.group (entries t))

      same : found_first.0.grant.file ≡ in_target.at.grant.file
      same = file_eq found_first.0.grant.file in_target.at.grant.file (group ∙ (ap (λ (x : FileId). x.group) in_dir.file_is ∙ ap (λ (x : FileId). x.group) (sym in_target.file_is)))
          (equal found_first.0.grant.file.ino ino (and_second (same_call found_first.0.grant.call d) (found_first.0.grant.file.ino == ino) of.1) ∙ ap (λ (x : FileId). x.ino) (sym in_target.file_is))

  -- ---- its work ----

  only : (n : ℕ) (o : Op) (result : Outcome) → WasDone t e r.target n o result → o ≡ op.Empty
  only n o result was = subst (IsMild r.target) (a.script_is ∙ a.fits) (before a.before a.after a.given a.log_is).mild refl
    where
      unnamed : has_named (entries t) d ≡ false
      unnamed = asker_unnamed c t d h (ap is_request asks.asked)

      a : Taken c t d (DoneSo r.target o)
      a = taken_so c t d (DoneSo r.target o) asks.nothing_waits (done_placed c t h (λ older g at j m p q z. done_named c older g at j m p q z) e d r.target n o result in_target.granted unnamed was)

  -- ---- what the site has ----

  record IsSeen : Type 0 where
    stamp : Stamp
    last : in_target.at.work.last ≡ Some stamp
    owes : in_target.at.work.owes ≡ false
    stands : Stands c t in_target.at.grant.file stamp
    seen : vector_in (user_instance u r.target.serial) ≡ vector_of (history c (entries t)) in_target.at.grant.file stamp

  number_had : has_number (had c t f.me) r.target.serial ≡ true
  number_had = (all_had c t h).holds e d r.target inside now (record { caller = k.call.caller; among = found_among (is_this f.me w.process d) (waiting (entries t)) k.call.caller k.call.waits; call_is = ap (λ (x : Waiting). x.call) k.call.caller_is }) has_target

  is_seen : IsSeen
  is_seen = over (user_instance u r.target.serial) refl
    where
      over : (o : Option UserInstance) → user_instance u r.target.serial ≡ o → IsSeen
      over None q = absurd (true_false (sym number_had ∙ (sym (k.others.has r.target.serial) ∙ ap (λ (o : Option UserInstance). is_some o) q)))
      over (Some x) q = record {
        stamp = on.0;
        last = stands_on.1 ∙ on.1;
        owes = stands_on.0;
        stands = subst (λ (g : FileId). Stands c t g on.0) file_is sees.0;
        seen = ap vector_in q ∙ (sees.1 ∙ ap (λ (g : FileId). vector_of (history c (entries t)) g on.0) file_is);
      }
        where
          found : Among x u.instances × (x.serial ≡ r.target.serial)
          found = row_found instance_serial r.target.serial u.instances x q

          fact : InstanceTurns c t f d x
          fact = every_among (InstanceTurns c t f d) x u.instances found.0 k.instances

          same : serial_of f.me x.serial ≡ r.target
          same = ap (λ (s : ℕ). serial_of f.me s) found.1 ∙ ap (λ (s : ℕ). serial_of s r.target.serial) (sym in_target.us_is)

          was : WasGranted t e fact.call fact.request r.target fact.mode fact.file fact.stamp x.ss
          was = subst (λ (j : Serial). WasGranted t e fact.call fact.request j fact.mode fact.file fact.stamp x.ss) same fact.was_granted

          shown : OpenAs c t e fact.call r.target fact.mode fact.file x.ss
          shown = granted_open c t h e fact.call fact.request r.target fact.mode fact.file fact.stamp x.ss was (unreleased c t e d (want.Do i (op.Remove name ino)) r.target h inside asks has_target)

          at_is : shown.at ≡ in_target.at
          at_is = some_same shown.at in_target.at (sym shown.found ∙ in_target.found)

          mode_is : fact.mode ≡ mode.Write
          mode_is = sym shown.mode_is ∙ (ap (λ (y : Instance). y.grant.mode) at_is ∙ in_target.mode_is)

          file_is : fact.file ≡ in_target.at.grant.file
          file_is = sym shown.file_is ∙ ap (λ (y : Instance). y.grant.file) at_is

          written : WasGranted t e fact.call fact.request r.target mode.Write fact.file fact.stamp x.ss
          written = subst (λ (m : Mode). WasGranted t e fact.call fact.request r.target m fact.file fact.stamp x.ss) mode_is was

          on : (s : Stamp) × (fact.stamp ≡ Some s)
          on = stamped c t h e fact.call fact.request r.target fact.file fact.stamp x.ss written

          stands_on : (in_target.at.work.owes ≡ false) × (in_target.at.work.last ≡ fact.stamp)
          stands_on = untouched c t h e fact.call fact.request r.target fact.file fact.stamp x.ss in_target.at written only in_target.found

          sees : Stands c t fact.file on.0 × (x.vector ≡ vector_of (history c (entries t)) fact.file on.0)
          sees = subst (λ (o : Option Stamp). SeesVersion c t fact.file mode.Write o x.vector) on.1 (subst (λ (m : Mode). SeesVersion c t fact.file m fact.stamp x.vector) mode_is fact.sees)

  serial_is : opened_serial ino w.answers ≡ Some r.target.serial
  serial_is = ap (opened_serial ino) k.call.answers_are ∙ (r.serial_is ∙ first_is (r.number == ino) (r.found == ino) other (subst (λ (m : ℕ). (m == ino) ≡ true) (sym in_target.number_is) (equal_self ino)))
    where
      first_is : (a b : Bool) → a ≡ false → b ≡ true → ◌≡◌ {A = Option ℕ} (elim a [ true ↦ Some i.serial | false ↦ elim b [ true ↦ Some r.target.serial | false ↦ None ] ]) (Some r.target.serial)
      first_is true b p q = absurd (true_false p)
      first_is false true p q = refl
      first_is false false p q = absurd (true_false (sym q))

  pub sees_target : SeesTarget c t e d i ino (seen_by u w.answers (op.Remove name ino))
  sees_target = record {
    at = in_dir.at;
    found = in_dir.found;
    target = in_target.at;
    is_target = is_first;
    owes = is_seen.owes;
    stamp = is_seen.stamp;
    last = is_seen.last;
    stands = is_seen.stands;
    seen_is = ap (vector_opened u) serial_is ∙ is_seen.seen;
  }
