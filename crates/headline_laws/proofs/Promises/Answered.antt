-- What the requests of a commit or a close are answered stands as a version of the file on which its instance was granted.
use Rattle.std.proofs.Common.{arith, length, ◌<◌, ◌≡◌, ℕ, zero, suc, ◌+◌, ◌-◌, ◌==◌, Bool, true, false, cond, ◌||◌, List, [], ◌∷◌, ◌++◌, take, Option, Some, None, refl, sym, ◌∙◌, ap, subst, inl, inr}
use Rattle.role_steps.proofs.of_plain_facts.Options.{some_same}
use Rattle.role_steps.proofs.of_plain_facts.Tests.{and_first, and_second, false_true, true_false}
use Rattle.locus_ids.specs.declared.config.Config.{Config}
use Rattle.locus_ids.specs.declared.ids.CallId.{CallId}
use Rattle.locus_ids.specs.declared.ids.EpochId.{EpochId}
use Rattle.locus_ids.specs.declared.ids.FileId.{FileId}
use Rattle.locus_ids.specs.declared.ids.Mode.{Mode}
use Rattle.locus_ids.specs.declared.ids.Mode.TheVariants as mode
use Rattle.locus_ids.specs.declared.ids.Serial.{Serial}
use Rattle.locus_ids.specs.declared.ids.Stamp.{Stamp}
use Rattle.locus_ids.specs.declared.refusal.Refusal.{Refusal}
use Rattle.locus_ids.specs.declared.refusal.Refusal.TheVariants as refusal
use Rattle.commit_graph.specs.declared.history.Version.{Version}
use Rattle.commit_graph.specs.Versions.{is_in, is_version, same_file}
use Rattle.commit_graph.proofs.Names.{same_stamp_eq}
use Rattle.trace_book.specs.Same.{same_call}
use Rattle.trace_book.specs.declared.descriptor.Beginning.{Beginning}
use Rattle.trace_book.specs.declared.descriptor.Beginning.TheVariants as begins
use Rattle.trace_book.specs.declared.operation.Op.{Op}
use Rattle.trace_book.specs.declared.operation.Op.TheVariants as op
use Rattle.trace_book.specs.declared.operation.Outcome.{Outcome}
use Rattle.trace_book.specs.declared.operation.Outcome.TheVariants as outcome
use Rattle.trace_book.specs.declared.operation.Served.{Served}
use Rattle.trace_book.specs.declared.operation.What.{What}
use Rattle.trace_book.specs.declared.record.Record.{Record}
use Rattle.trace_book.specs.declared.record.Record.TheVariants as says
use Rattle.call_rules.specs.declared.answer.Answer.{Answer}
use Rattle.call_rules.specs.declared.answer.Answer.TheVariants as answer
use Rattle.call_rules.specs.declared.want.Want.TheVariants as want
use Rattle.call_rules.specs.Descriptors.{lowest_free}
use Rattle.file_effects.specs.Works.{commit_result}
use Rattle.file_effects.specs.declared.work.Work.{Work}
use Rattle.role_steps.specs.Own.{Every}
use Rattle.role_steps.specs.Views.{Told, Shown}
use Rattle.role_steps.proofs.Sending.{every_append}
use Rattle.the_run.proofs.Boots.{every_weaker}
use Rattle.the_run.specs.Worlds.{Line}
use Rattle.tree_model.specs.declared.accepted.Waiting.{Waiting}
use Rattle.tree_model.specs.declared.instance.Instance.{Instance}
use Rattle.tree_model.specs.Calls.{call_named}
use Rattle.tree_model.specs.Folds.{Trace}
use Rattle.tree_model.specs.Given.{instance_ends, instance_gives}
use Rattle.tree_model.specs.Histories.{history, history_after}
use Rattle.tree_model.specs.Same.{is_given, same_version}
use Rattle.tree_model.specs.State.{instance_in}
use Rattle.tree_model.specs.Tree.{kept_in, tree_of}
use Rattle.tree_model.specs.Working.{is_spent}
use Rattle.lawful_trace.specs.Progress.{is_packed_in, answers, answers_after, close_answer, granted_answer, look_answer, outcome_answer, wants_after, wants_as, wants_next}
use Rattle.lawful_trace.specs.Tables.{begun, descriptor, call_of_act, call_of_release, is_call}
use Rattle.lawful_trace.specs.TreeRows.{IsCallIn, granted_group, is_open_of}
use Rattle.tree_steps.proofs.Spent.{never_spent}
use Rattle.tree_laws.specs.Following.{IsFollowed, MayTell}
use Rattle.tree_laws.specs.Instances.{instance_now}
use Rattle.tree_laws.specs.Past.{GrantRecord, Printed, WasGranted}
use Rattle.tree_laws.specs.Printed.{entries, onto_entries}
use Rattle.tree_laws.proofs.Names.{same_call_eq}
use Rattle.tree_laws.proofs.Rows.{followed_rows}
use Rattle.tree_laws.proofs.Scripts.{begun_stays, named_stays}
use Rattle.calm_laws.proofs.of_store_laws.Holdings.Holding.{stands_on_held}
use Rattle.calm_laws.proofs.of_store_laws.Holdings.Made.{held_stand}
use Rattle.calm_laws.proofs.of_store_laws.Holdings.RoomOpenGranted.{GrantedSo, open_granted}
use Rattle.headline_laws.proofs.Promises.CommitScripts.{AsksOf, no_open, script_of}
use Rattle.headline_laws.specs.Promises.Acknowledging.{IsGrantedOn, acknowledges}

-- ---- versions ----

-- the stamp is of a version of the file on which the instance was granted
pub record IsOfGranted (c : Config) (t : Trace) (e : EpochId) (i : Serial) (s : Stamp) : Type 0 where
  pub file : FileId
  pub granted : IsGrantedOn t e i file
  pub stands : is_in (history c t) file s ≡ true

-- So is what an answer brings; and it doesn't refuse.
abbrev pub Brings : Config → Trace → EpochId → Serial → Answer → Type 0
Brings c t e i (answer.Did (outcome.Committed s)) = IsOfGranted c t e i s
Brings c t e i (answer.Did (outcome.No why)) = ⊥
Brings c t e i (answer.Ended (Some s)) = IsOfGranted c t e i s
Brings c t e i (answer.Refused why) = ⊥
Brings c t e i _ = Unit {0}

-- an answer to an accepted call, as far as that is a commit or a close
pub record BringsSo (c : Config) (t : Trace) (d : CallId) (a : Answer) : Type 0 where
  pub accepted : Waiting
  pub named : call_named t d ≡ Some accepted
  pub epoch : EpochId
  pub made_in : accepted.epoch ≡ Some epoch
  pub brings : acknowledges accepted.words ≡ true → (f : EpochId) (i : Serial) → begun t d ≡ Some (begins.Uses f i) → Brings c t epoch i a

-- ---- a record more ----

older_in : (v : Version) (h : List Version) (f : FileId) (s : Stamp) → is_in h f s ≡ true → is_in (v ∷ h) f s ≡ true
older_in v h f s k = over (is_version f s v)
  where
    over : (b : Bool) → (b || is_in h f s) ≡ true
    over true = refl
    over false = k

still_in : (c : Config) (n : ℕ) (r : Record) (t : Trace) (f : FileId) (s : Stamp) → is_in (history c t) f s ≡ true → is_in (history c (record { line = n; what = r } ∷ t)) f s ≡ true
still_in c n (says.Commit g site stamp parents content) t f s k = older_in (record { file = g; site = site; stamp = stamp; parents = parents; content = content }) (history c t) f s k
still_in c n _ t f s k = k

still_granted : (c : Config) (n : ℕ) (r : Record) (t : Trace) (e : EpochId) (i : Serial) (s : Stamp) → IsOfGranted c t e i s → IsOfGranted c (record { line = n; what = r } ∷ t) e i s
still_granted c n r t e i s k = record {
  file = k.file;
  granted = record { line = k.granted.line; call = k.granted.call; request = k.granted.request; mode = k.granted.mode; stamp = k.granted.stamp; ss = k.granted.ss; there = inr k.granted.there };
  stands = still_in c n r t k.file s k.stands;
}

still_brings : (c : Config) (n : ℕ) (r : Record) (t : Trace) (e : EpochId) (i : Serial) (a : Answer) → Brings c t e i a → Brings c (record { line = n; what = r } ∷ t) e i a
still_brings c n r t e i (answer.Did (outcome.Committed s)) k = still_granted c n r t e i s k
still_brings c n r t e i (answer.Ended (Some s)) k = still_granted c n r t e i s k
still_brings c n r t e i (answer.Did (outcome.No why)) k = k
still_brings c n r t e i (answer.Refused why) k = k
still_brings c n r t e i _ k = tt

-- ---- what the tree gives ----

commit_gives : (spent : Bool) (w : Work) (s : Stamp) (o : Bool) (l : Option Stamp) → is_given (commit_result spent (record w { owes = o; last = l })) (outcome.Committed s) ≡ true → l ≡ Some s
commit_gives true w s true l k = absurd (false_true k)
commit_gives false w s true l k = absurd (false_true k)
commit_gives spent w s false None k = absurd (false_true k)
commit_gives spent w s false (Some z) k = ap Some (same_stamp_eq z s k)

commit_refuses : (spent : Bool) (w : Work) (why : Refusal) (o : Bool) (l : Option Stamp) → spent ≡ false → is_given (commit_result spent (record w { owes = o; last = l })) (outcome.No why) ≡ true → ⊥
commit_refuses true w why o l short k = true_false short
commit_refuses false w why true l short k = false_true k
commit_refuses false w why false None short k = false_true k
commit_refuses false w why false (Some z) short k = false_true k

made_is : (o : Option Stamp) (s : Stamp) → same_version (Some s) o ≡ true → o ≡ Some s
made_is None s k = absurd (false_true k)
made_is (Some z) s k = ap Some (sym (same_stamp_eq s z k))

was_granted : (trace : List Line) (e : EpochId) (d : CallId) (request : ℕ) (i : Serial) (m : Mode) (f : FileId) (stamp : Option Stamp) (ss : ℕ) → WasGranted trace e d request i m f stamp ss → IsGrantedOn (entries trace) e i f
was_granted [] e d request i m f stamp ss k = absurd k
was_granted (x ∷ older) e d request i m f stamp ss (inr k) = by_told x.told (was_granted older e d request i m f stamp ss k)
  where
    by_told : (y : Told) → IsGrantedOn (entries older) e i f → IsGrantedOn (onto_entries x.number y (entries older)) e i f
    by_told (Shown r) g = record { line = g.line; call = g.call; request = g.request; mode = g.mode; stamp = g.stamp; ss = g.ss; there = inr g.there }
    by_told _ g = g
was_granted (x ∷ older) e d request i m f stamp ss (inl k) = by_told x.told k
  where
    by_record : (r : Record) → GrantRecord e d request i m f stamp ss older r → IsGrantedOn (record { line = x.number; what = r } ∷ entries older) e i f
    by_record (says.Grant at call number inst how file on place) k =
        let now : Trace = record { line = x.number; what = says.Grant at call number inst how file on place } ∷ entries older in
        subst (λ (y : FileId). IsGrantedOn now e i y) k.file_is (subst (λ (y : Serial). IsGrantedOn now e y file) k.serial_is (subst (λ (y : EpochId). IsGrantedOn now y inst file) k.epoch_is
        (record { line = x.number; call = call; request = number; mode = how; stamp = on; ss = place; there = inl refl })))
    by_record _ k = absurd k

    by_told : (y : Told) → Printed (GrantRecord e d request i m f stamp ss) older y → IsGrantedOn (onto_entries x.number y (entries older)) e i f
    by_told (Shown r) k = by_record r k
    by_told _ k = absurd k

-- no counter of versions has come to its end
abbrev pub IsShort : Config → Trace → Type 0
IsShort c t = length (history c t) < 4294967295

module _ (c : Config) (older : List Line) (h : IsFollowed c older) (short : IsShort c (entries older)) where
  -- the last version of an open instance is of the file on which it was granted
  last_granted : (e : EpochId) (i : Serial) (x : Instance) (s : Stamp) → instance_now c older e i ≡ Some x → x.work.last ≡ Some s → IsOfGranted c (entries older) e i s
  last_granted e i x s found last = record {
    file = x.grant.file;
    granted = was_granted older e so.call so.request i x.grant.mode x.grant.file so.stamp x.grant.ss so.was;
    stands = held_stand c (entries older) (followed_rows c older h) e x.grant.file x.grant.ss s (sym (stands_on_held c older h e i x found).last_is ∙ last);
  }
    where
      so : GrantedSo older e i x.grant
      so = open_granted c older h e _ i x found

  -- what the script of the call asks after such answers, as its words have it
  asks_after : (d : CallId) (accepted : Waiting) (f : EpochId) (i : Serial) → call_named (entries older) d ≡ Some accepted → acknowledges accepted.words ≡ true → begun (entries older) d ≡ Some (begins.Uses f i) → (xs : List Answer) → AsksOf i (wants_after c (entries older) d xs)
  asks_after d accepted f i named kind uses xs = subst (AsksOf i) (sym is) (script_of c.mounts (is_packed_in c (entries older) accepted.epoch) (lowest_free (descriptor (entries older) accepted.site accepted.process)) f i accepted.words kind xs)
    where
      is : wants_after c (entries older) d xs ≡ wants_as c (entries older) (Some accepted) (Some (begins.Uses f i)) xs
      is = ap (λ (o : Option Waiting). wants_as c (entries older) o (begun (entries older) d) xs) named ∙ ap (λ (b : Option Beginning). wants_as c (entries older) (Some accepted) b xs) uses

  asks_of : (d : CallId) (accepted : Waiting) (f : EpochId) (i : Serial) → call_named (entries older) d ≡ Some accepted → acknowledges accepted.words ≡ true → begun (entries older) d ≡ Some (begins.Uses f i) → AsksOf i (wants_next c (entries older) d)
  asks_of d accepted f i named kind uses = asks_after d accepted f i named kind uses (answers c (entries older) d)

  -- ---- one answer ----

  act_brings : (e : EpochId) (i : Serial) (n : ℕ) (o : Op) (result : Outcome) (d : CallId) → MayTell c older (Shown (says.Act e i n o result)) → call_of_act (entries older) e i n ≡ Some d → BringsSo c (entries older) d (outcome_answer result)
  act_brings e i n o result d may owner = record { accepted = may.row.step.step.accepted; named = named; epoch = e; made_in = may.row.step.step.made_in; brings = λ kind f j uses. by_result result refl f j uses kind }
    where
      same : may.row.step.call ≡ d
      same = some_same may.row.step.call d (sym may.row.step.owned ∙ owner)

      named : call_named (entries older) d ≡ Some may.row.step.step.accepted
      named = ap (call_named (entries older)) (sym same) ∙ may.row.step.step.named

      asked : wants_next c (entries older) d ≡ want.Do i o
      asked = ap (wants_next c (entries older)) (sym same) ∙ may.row.step.asked

      by_result : (r : Outcome) → result ≡ r → (f : EpochId) (j : Serial) → begun (entries older) d ≡ Some (begins.Uses f j) → acknowledges may.row.step.step.accepted.words ≡ true → Brings c (entries older) e j (outcome_answer r)
      by_result (outcome.Committed s) is f j uses kind = subst (λ (y : Serial). IsOfGranted c (entries older) e y s) g.0 (last_granted e i x s may.in_time.open_at.found last)
        where
          x : Instance
          x = may.in_time.at

          g : (i ≡ j) × (o ≡ op.Commit)
          g = subst (AsksOf j) asked (asks_of d may.row.step.step.accepted f j named kind uses)

          given : is_given (commit_result (is_spent (history c (entries older)) (tree_of c e (granted_group (entries older) e i) (entries older)) may.in_time.at) may.in_time.at.work) (outcome.Committed s) ≡ true
          given = and_second (n == may.in_time.at.work.ops + 1) _ (subst (λ (y : Op). instance_gives (history c (entries older)) (tree_of c e (granted_group (entries older) e i) (entries older)) n y (outcome.Committed s) (Some may.in_time.at) ≡ true) g.1
              (subst (λ (y : Outcome). instance_gives (history c (entries older)) (tree_of c e (granted_group (entries older) e i) (entries older)) n o y (Some may.in_time.at) ≡ true) is (ap (instance_gives (history c (entries older)) (tree_of c e (granted_group (entries older) e i) (entries older)) n o result) (sym may.in_time.open_at.found) ∙ may.row.gives)))

          last : may.in_time.at.work.last ≡ Some s
          last = commit_gives (is_spent (history c (entries older)) (tree_of c e (granted_group (entries older) e i) (entries older)) may.in_time.at) may.in_time.at.work s may.in_time.at.work.owes may.in_time.at.work.last given
      by_result (outcome.No why) is f j uses kind = commit_refuses (is_spent (history c (entries older)) (tree_of c e (granted_group (entries older) e i) (entries older)) may.in_time.at) may.in_time.at.work why may.in_time.at.work.owes may.in_time.at.work.last
          (never_spent (history c (entries older)) (tree_of c e (granted_group (entries older) e i) (entries older)) may.in_time.at short) given
        where
          o_is : o ≡ op.Commit
          o_is = (subst (AsksOf j) asked (asks_of d may.row.step.step.accepted f j named kind uses)).1

          given : is_given (commit_result (is_spent (history c (entries older)) (tree_of c e (granted_group (entries older) e i) (entries older)) may.in_time.at) may.in_time.at.work) (outcome.No why) ≡ true
          given = and_second (n == may.in_time.at.work.ops + 1) _ (subst (λ (y : Op). instance_gives (history c (entries older)) (tree_of c e (granted_group (entries older) e i) (entries older)) n y (outcome.No why) (Some may.in_time.at) ≡ true) o_is
              (subst (λ (y : Outcome). instance_gives (history c (entries older)) (tree_of c e (granted_group (entries older) e i) (entries older)) n o y (Some may.in_time.at) ≡ true) is (ap (instance_gives (history c (entries older)) (tree_of c e (granted_group (entries older) e i) (entries older)) n o result) (sym may.in_time.open_at.found) ∙ may.row.gives)))
      by_result outcome.Done is f j uses kind = tt
      by_result (outcome.Found ino k) is f j uses kind = tt
      by_result (outcome.Data bytes) is f j uses kind = tt

  release_brings : (e : EpochId) (i : Serial) (f : FileId) (stamp : Option Stamp) (d : CallId) → MayTell c older (Shown (says.Release e i f stamp)) → call_of_release (entries older) e i ≡ Some d → BringsSo c (entries older) d (close_answer stamp (instance_in (tree_of c e f.group (entries older)) i))
  release_brings e i f stamp d may owner = record { accepted = may.row.step.step.accepted; named = named; epoch = e; made_in = may.row.step.step.made_in; brings = λ kind g j uses. brings g j uses kind }
    where
      same : may.row.step.call ≡ d
      same = some_same may.row.step.call d (sym may.row.step.owned ∙ owner)

      named : call_named (entries older) d ≡ Some may.row.step.step.accepted
      named = ap (call_named (entries older)) (sym same) ∙ may.row.step.step.named

      asked : wants_next c (entries older) d ≡ want.Close i
      asked = ap (wants_next c (entries older)) (sym same) ∙ may.row.step.asked

      x : Instance
      x = may.in_time.at

      found : instance_in (tree_of c e f.group (entries older)) i ≡ Some may.in_time.at
      found = subst (λ (g : ℕ). instance_in (tree_of c e g (entries older)) i ≡ Some may.in_time.at) may.in_time.group_is may.in_time.open_at.found

      made : (s : Stamp) → stamp ≡ Some s → may.in_time.at.work.committed ≡ Some s
      made s is = made_is may.in_time.at.work.committed s (and_first (same_version (Some s) may.in_time.at.work.committed) _ (and_second (same_file may.in_time.at.grant.file f) _
          (subst (λ (o : Option Stamp). instance_ends (history c (entries older)) (tree_of c e f.group (entries older)) f o (Some may.in_time.at) ≡ true) is (ap (instance_ends (history c (entries older)) (tree_of c e f.group (entries older)) f stamp) (sym found) ∙ may.row.gives))))

      brings : (g : EpochId) (j : Serial) → begun (entries older) d ≡ Some (begins.Uses g j) → acknowledges may.row.step.step.accepted.words ≡ true → Brings c (entries older) e j (close_answer stamp (instance_in (tree_of c e f.group (entries older)) i))
      brings g j uses kind = subst (λ (o : Option Instance). Brings c (entries older) e j (close_answer stamp o)) (sym found) (by_work may.in_time.at.work.owes may.in_time.at.work.fresh stamp may.in_time.owes refl)
        where
          mine : i ≡ j
          mine = subst (AsksOf j) asked (asks_of d may.row.step.step.accepted g j named kind uses)

          by_work : (owes fresh : Bool) (o : Option Stamp) → owes ≡ false → stamp ≡ o → Brings c (entries older) e j (cond owes (answer.Refused refusal.Spent) (answer.Ended (cond fresh o None)))
          by_work true fresh o not_owed is = true_false not_owed
          by_work false false o not_owed is = tt
          by_work false true None not_owed is = tt
          by_work false true (Some s) not_owed is = subst (λ (y : Serial). IsOfGranted c (entries older) e y s) mine (last_granted e i may.in_time.at s may.in_time.open_at.found ((stands_on_held c older h e i may.in_time.at may.in_time.open_at.found).made s (made s is)))

  -- ---- a record more ----

  abbrev AllBring : CallId → List Answer → Type 0
  AllBring d xs = Every (BringsSo c (entries older) d) xs

  -- an answer that tells no version
  plain_brings : (e : EpochId) (d it : CallId) (a : Answer) → ((e : EpochId) (i : Serial) → Brings c (entries older) e i a) → IsCallIn (entries older) e it → it ≡ d → BringsSo c (entries older) d a
  plain_brings e d it a none k is = record { accepted = k.accepted; named = ap (call_named (entries older)) (sym is) ∙ k.named; epoch = e; made_in = k.made_in; brings = λ kind f i uses. none e i }

  -- a look or an open is of another call
  look_brings : (e : EpochId) (d it : CallId) (request : ℕ) (f : FileId) (w : What) (result : Served) (a : Answer) → MayTell c older (Shown (says.Look e it request f w result)) → it ≡ d → BringsSo c (entries older) d a
  look_brings e d it request f w result a may is = record { accepted = may.row.step.accepted; named = named; epoch = e; made_in = may.row.step.made_in; brings = λ kind g j uses. absurd (subst (AsksOf j) asked (asks_after d may.row.step.accepted g j named kind uses (take (request - 1) (answers c (entries older) d)))) }
    where
      named : call_named (entries older) d ≡ Some may.row.step.accepted
      named = ap (call_named (entries older)) (sym is) ∙ may.row.step.named

      asked : wants_after c (entries older) d (take (request - 1) (answers c (entries older) d)) ≡ want.Look f w
      asked = ap (λ (x : CallId). wants_after c (entries older) x (take (request - 1) (answers c (entries older) x))) (sym is) ∙ may.row.asked

  refuse_brings : (e : EpochId) (d it : CallId) (request : ℕ) (i : Serial) (m : Mode) (f : FileId) (why : Refusal) (a : Answer) → MayTell c older (Shown (says.Refuse e it request i m f why)) → it ≡ d → BringsSo c (entries older) d a
  refuse_brings e d it request i m f why a may is = record { accepted = may.row.opens.step.accepted; named = named; epoch = e; made_in = may.row.opens.step.made_in; brings = λ kind g j uses. absurd (true_false (sym asked ∙ no_open j m f (wants_next c (entries older) d) (asks_of d may.row.opens.step.accepted g j named kind uses))) }
    where
      named : call_named (entries older) d ≡ Some may.row.opens.step.accepted
      named = ap (call_named (entries older)) (sym is) ∙ may.row.opens.step.named

      asked : is_open_of m f (wants_next c (entries older) d) ≡ true
      asked = ap (λ (x : CallId). is_open_of m f (wants_next c (entries older) x)) (sym is) ∙ may.row.opens.asked

  granted_none : (m : Mode) (inst : Serial) (f : FileId) (stamp : Option Stamp) (kept : List Stamp) (e : EpochId) (i : Serial) → Brings c (entries older) e i (granted_answer m inst f stamp kept)
  granted_none mode.Mend inst f stamp kept e i = tt
  granted_none mode.Read inst f (Some stamp) kept e i = tt
  granted_none mode.Read inst f None kept e i = tt
  granted_none mode.Write inst f stamp kept e i = tt
  granted_none mode.Resolve inst f stamp kept e i = tt
  granted_none mode.Make inst f stamp kept e i = tt

  every_take : (d : CallId) (n : ℕ) (xs : List Answer) → AllBring d xs → AllBring d (take n xs)
  every_take d zero xs k = tt
  every_take d (suc n) [] k = tt
  every_take d (suc n) (x ∷ xs) k = (k.0, every_take d n xs k.1)

  with_last : (d it : CallId) (xs old : List Answer) (a : Answer) (b : Bool) → same_call it d ≡ b → AllBring d xs → AllBring d old → (it ≡ d → BringsSo c (entries older) d a) → AllBring d (cond b (xs ++ a ∷ []) old)
  with_last d it xs old a true e k j f = every_append (BringsSo c (entries older) d) xs (a ∷ []) k (f (same_call_eq it d e), tt)
  with_last d it xs old a false e k j f = j

  with_owned : (d : CallId) (o : Option CallId) (old : List Answer) (a : Answer) → AllBring d old → (o ≡ Some d → BringsSo c (entries older) d a) → AllBring d (cond (is_call o d) (old ++ a ∷ []) old)
  with_owned d None old a k f = k
  with_owned d (Some it) old a k f = with_last d it old old a (same_call it d) refl k k (λ e. f (ap Some e))

  record_brings : (d : CallId) (r : Record) → MayTell c older (Shown r) → (old : List Answer) → AllBring d old → AllBring d (answers_after r c (entries older) d old)
  record_brings d (says.Look e it request f w result) may old k = with_last d it (take (request - 1) old) old (look_answer c (entries older) f w result) (same_call it d) refl (every_take d (request - 1) old k) k (look_brings e d it request f w result (look_answer c (entries older) f w result) may)
  record_brings d (says.Grant e it request i m f stamp ss) may old k = with_last d it old old (granted_answer m i f stamp (kept_in c (entries older) e f)) (same_call it d) refl k k (plain_brings e d it _ (granted_none m i f stamp (kept_in c (entries older) e f)) may.row.opens.step)
  record_brings d (says.Refuse e it request i m f why) may old k = with_last d it old old (answer.Refused why) (same_call it d) refl k k (refuse_brings e d it request i m f why (answer.Refused why) may)
  record_brings d (says.Act e i n o result) may old k = with_owned d (call_of_act (entries older) e i n) old (outcome_answer result) k (act_brings e i n o result d may)
  record_brings d (says.Release e i f stamp) may old k = with_owned d (call_of_release (entries older) e i) old (close_answer stamp (instance_in (tree_of c e f.group (entries older)) i)) k (release_brings e i f stamp d may)
  record_brings d _ may old k = k

  still_so : (n : ℕ) (r : Record) → MayTell c older (Shown r) → (d : CallId) (a : Answer) → BringsSo c (entries older) d a → BringsSo c (record { line = n; what = r } ∷ entries older) d a
  still_so n r may d a k = record {
    accepted = k.accepted;
    named = named_stays c n (Shown r) older d h may (k.accepted, k.named) ∙ k.named;
    epoch = k.epoch;
    made_in = k.made_in;
    brings = λ kind f i uses. still_brings c n r (entries older) k.epoch i a (k.brings kind f i (sym (begun_stays c n (Shown r) older d h may (k.accepted, k.named)) ∙ uses));
  }

-- a history only grows
pub shorter : (c : Config) (x : Line) (older : List Line) → IsShort c (entries (x ∷ older)) → IsShort c (entries older)
shorter c x older k = by_told x.told k
  where
    less : (n : ℕ) → suc n < 4294967295 → n < 4294967295
    less n l = omega (arith, l)

    by_record : (r : Record) → length (history_after r (history c (entries older))) < 4294967295 → IsShort c (entries older)
    by_record (says.Commit f s stamp parents content) l = less (length (history c (entries older))) l
    by_record _ l = l

    by_told : (y : Told) → IsShort c (onto_entries x.number y (entries older)) → IsShort c (entries older)
    by_told (Shown r) l = by_record r l
    by_told _ l = l

-- what any call was answered
pub all_bring : (c : Config) (t : List Line) → IsFollowed c t → IsShort c (entries t) → (d : CallId) → Every (BringsSo c (entries t) d) (answers c (entries t) d)
all_bring c [] h short d = tt
all_bring c (x ∷ older) h short d = by_told x.told h.0 (all_bring c older h.1 old d)
  where
    old : IsShort c (entries older)
    old = shorter c x older short

    by_told : (y : Told) → MayTell c older y → Every (BringsSo c (entries older) d) (answers c (entries older) d) → Every (BringsSo c (onto_entries x.number y (entries older)) d) (answers c (onto_entries x.number y (entries older)) d)
    by_told (Shown r) may k = every_weaker (BringsSo c (entries older) d) (BringsSo c (record { line = x.number; what = r } ∷ entries older) d) (answers_after r c (entries older) d (answers c (entries older) d)) (still_so c older h.1 old x.number r may d) (record_brings c older h.1 old d r may (answers c (entries older) d) k)
    by_told _ may k = k
