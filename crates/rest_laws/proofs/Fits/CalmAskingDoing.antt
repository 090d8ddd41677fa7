-- What a call asks of an open instance as its next operation can be done.
use Rattle.std.proofs.Common.{◌≡◌, ℕ, ◌+◌, ◌≤◌, ◌<◌, ◌^◌, suc, zero, Bool, true, false, ◌&&◌, cond, nat_le, nat_lt, List, [], ◌∷◌, ◌++◌, length, map, Option, Some, None, refl, sym, ◌∙◌, subst, ◌⊎◌, inl, inr, arith}
use Rattle.std.proofs.lemmas.Bool.Decides.{nat_tests}
use Rattle.std.specs.List.{AllByRecursion, list_all}
use Rattle.locus_ids.specs.declared.config.Config.{Config}
use Rattle.locus_ids.specs.declared.ids.CallId.{CallId}
use Rattle.locus_ids.specs.declared.ids.EpochId.{EpochId}
use Rattle.locus_ids.specs.declared.ids.FileId.{FileId}
use Rattle.locus_ids.specs.declared.ids.Kind.{Kind}
use Rattle.locus_ids.specs.declared.ids.Kind.TheVariants as kind
use Rattle.locus_ids.specs.declared.ids.Mode.TheVariants as mode
use Rattle.locus_ids.specs.declared.ids.Serial.{Serial}
use Rattle.locus_ids.specs.declared.ids.Stamp.{Stamp}
use Rattle.locus_ids.specs.declared.refusal.Refusal.{Refusal}
use Rattle.locus_ids.specs.declared.refusal.Refusal.TheVariants as refusal
use Rattle.locus_ids.specs.Sizes.{file_bytes_max, sites_max}
use Rattle.commit_graph.specs.Counters.{counter}
use Rattle.commit_graph.specs.Vectors.{numbers_from, vector_of}
use Rattle.commit_graph.specs.declared.history.Version.{Version}
use Rattle.schedule_lines.specs.Ranges.{is_between, is_byte, is_word}
use Rattle.trace_book.specs.Names.{is_name}
use Rattle.trace_book.specs.declared.call.Call.{Call}
use Rattle.trace_book.specs.declared.call.Call.TheVariants as call
use Rattle.trace_book.specs.declared.call.OpenMode.TheVariants as how
use Rattle.trace_book.specs.declared.descriptor.Beginning.TheVariants as begins
use Rattle.trace_book.specs.declared.descriptor.Descriptor.{Descriptor}
use Rattle.trace_book.specs.declared.operation.Op.{Op}
use Rattle.trace_book.specs.declared.operation.Op.TheVariants as op
use Rattle.trace_book.specs.declared.operation.Outcome.{Outcome}
use Rattle.trace_book.specs.declared.operation.Outcome.TheVariants as outcome
use Rattle.dir_format.specs.declared.entry.Entry.{Entry}
use Rattle.dir_format.specs.Contents.{entries_of}
use Rattle.dir_format.specs.Entries.{IsVector}
use Rattle.file_effects.specs.Effects.{As, Effect, Removes, effect}
use Rattle.call_rules.specs.Descriptors.{begins_change, beginning}
use Rattle.call_rules.specs.Words.{is_too_long}
use Rattle.call_rules.specs.declared.answer.Answer.{Answer}
use Rattle.call_rules.specs.declared.answer.Answer.TheVariants as answer
use Rattle.call_rules.specs.declared.want.Want.{Want}
use Rattle.call_rules.specs.declared.want.Want.TheVariants as want
use Rattle.mailbox_join.proofs.Naming.{named}
use Rattle.role_steps.specs.OperationEffects.{Mending, effect_of}
use Rattle.the_run.specs.Worlds.{Line}
use Rattle.tree_model.specs.declared.accepted.Waiting.{Waiting}
use Rattle.tree_model.specs.declared.instance.Instance.{Instance}
use Rattle.tree_model.specs.Calls.{call_named}
use Rattle.tree_model.specs.Files.{kind_of_file}
use Rattle.tree_model.specs.Histories.{history}
use Rattle.lawful_trace.specs.Progress.{outcome_answer}
use Rattle.lawful_trace.specs.Tables.{begun}
use Rattle.lawful_trace.specs.TreeRows.{IsCallIn}
use Rattle.tree_laws.specs.Calls.{Asks, log, script, script_as}
use Rattle.tree_laws.specs.Instances.{instance_now}
use Rattle.tree_laws.specs.Packets.{OpsNow}
use Rattle.tree_laws.specs.Past.{WasDone, WasGranted}
use Rattle.tree_laws.specs.Printed.{entries}
use Rattle.tree_laws.proofs.Alone.{asking}
use Rattle.tree_laws.proofs.Answered.{asker_unnamed}
use Rattle.tree_laws.proofs.CarriedLooks.{one_epoch}
use Rattle.tree_laws.proofs.Holding.{Script}
use Rattle.tree_laws.specs.Orders.Joining.{PacksAreOfSites}
use Rattle.tree_laws.proofs.Orders.Lists.{all_then}
use Rattle.store_laws.proofs.Places.{open_is}
use Rattle.rest_laws.specs.StoreStepKnown.{IsKnownCall}
use Rattle.rest_laws.proofs.StoreStepCounters.{counter_low}
use Rattle.rest_laws.proofs.StoreStepKnown.{known_call}
use Rattle.store_laws.proofs.AnswerDone.{done_named}
use Rattle.store_laws.proofs.OneTree.RemovePlaced.{DoneSo, Taken, done_placed, taken_so}
use Rattle.store_laws.proofs.OneTree.RemoveScripts.{Along, IsOr, along_at, along_same}
use Rattle.rest_laws.specs.Fits.Inodes.{IsInodeNumber}
use Rattle.rest_laws.proofs.Fits.Numbers.{stands_inode}
use Rattle.rest_laws.specs.Fits.EntryEntries.{EntriesName, IsEntered, IsLeftMessage, NamesFile, WasInserted}
use Rattle.rest_laws.proofs.Fits.EntryActing.{inserted_named}
use Rattle.rest_laws.proofs.Fits.EntryFacts.{IsAnswered, IsKnown, named_known, roots_known}
use Rattle.rest_laws.proofs.Fits.EntryNamed.{trace_named}
use Rattle.rest_laws.proofs.Fits.EntryOpen.{instances_name}
use Rattle.store_laws.specs.OneTree.Rest.{IsNumberedLow, Past, RangeCall}
use Rattle.rest_laws.specs.Fits.CalmAskingAsked.{IsDoable}
use Rattle.rest_laws.proofs.Fits.CalmAskingAsking.{b, by_words, own, so, starts, used, uses_here, w, walked}
use Rattle.rest_laws.proofs.Fits.CalmAskingDirectories.{Lacks, entries_dir}
use Rattle.rest_laws.proofs.Fits.CalmAskingEffects.{Acts, empty_acts, find_acts, insert_acts, probe_acts, remove_acts, rename_acts, write_acts}
use Rattle.rest_laws.proofs.Fits.CalmAskingFound.{IsLivePair, found_pair}
use Rattle.rest_laws.proofs.Fits.CalmAskingFresh.{not_inserted}
use Rattle.rest_laws.proofs.Fits.CalmAskingInserting.{Inserts, script_dir, script_inserts}
use Rattle.rest_laws.proofs.Fits.CalmAskingLasting.{last_stands}
use Rattle.rest_laws.proofs.Fits.CalmAskingOpened.{named_mode}
use Rattle.rest_laws.proofs.Fits.CalmAskingRemoving.{Finding, LeavesOn, LeftSo, script_finding}
use Rattle.rest_laws.proofs.Fits.CalmAskingSources.{source}
use Rattle.rest_laws.proofs.Fits.CalmAskingStanding.{OnlyLeft, finds_still}
use Rattle.rest_laws.proofs.Fits.CalmAskingTold.{WasActed, WasOpened, act_source, open_source}
use Rattle.rest_laws.proofs.Fits.CalmAskingWords.{IsUse, Mails, Makes, NameSo, AskedBy}

-- ---- what a remove has seen ----

vector_fits : (h : List Version) (f : FileId) (s : Stamp) → ((site : ℕ) → 1 ≤ site → counter h f s site < 2 ^ 32) → (first more : ℕ) → 1 ≤ first → AllByRecursion (λ (n : ℕ). n < 2 ^ 32) (map (counter h f s) (numbers_from first more))
vector_fits h f s low first zero one = tt
vector_fits h f s low first (suc more) one = (low first one, vector_fits h f s low (first + 1) more (omega (arith, one)))

wide : (n : ℕ) → n < 4294967295 → n < 2 ^ 32
wide n l = omega (arith, l)

module _ (c : Config) (t : List Line) (past : Past c t) where
  written_fits : (f : FileId) (s : Stamp) → IsVector (vector_of (history c (entries t)) f s)
  written_fits f s = record { sites = refl; counters = vector_fits (history c (entries t)) f s (λ site low. wide (counter (history c (entries t)) f s site) (counter_low c t past.followed past.rest.each f site low s)) 1 sites_max (omega arith) }

-- ---- writes ----

write_place : (a b : ℕ) (x y : List ℕ) → op.Write a x ≡ op.Write b y → (a ≡ b) × (x ≡ y)
write_place a b x y e = (cc, cc)

denied_uses : (why : Refusal) (e : EpochId) (i : Serial) → begins.Denied why ≡ begins.Uses e i → ⊥
denied_uses why e i k = cc

short : (n : ℕ) → nat_lt file_bytes_max n ≡ false → n ≤ file_bytes_max
short n e = grind (arith, nat_tests)

-- a write ends within the greatest size
write_short : (table : ℕ → Option Descriptor) (now : Option EpochId) (id : CallId) (words : Call) (e : EpochId) (i : Serial) (at : ℕ) (bytes : List ℕ) → beginning table now id words ≡ begins.Uses e i → IsUse words (op.Write at bytes) → at + length bytes ≤ file_bytes_max
write_short table now id (call.Write fd a x) e i at bytes k u = subst (λ (n : ℕ). n + length bytes ≤ file_bytes_max) (sym (write_place at a bytes x u).0) (subst (λ (ys : List ℕ). a + length ys ≤ file_bytes_max) (sym (write_place at a bytes x u).1) (short (a + length x) (over (is_too_long (call.Write fd a x)) refl k)))
  where
    over : (b : Bool) → is_too_long (call.Write fd a x) ≡ b → cond b (begins.Denied refusal.TooLong) (begins_change now (table fd)) ≡ begins.Uses e i → is_too_long (call.Write fd a x) ≡ false
    over true is q = absurd (denied_uses refusal.TooLong e i q)
    over false is q = is
write_short table now id (call.Read fd a len) e i at bytes k u = absurd (other u)
  where
    other : op.Write at bytes ≡ op.Read a len → ⊥
    other q = cc
write_short table now id (call.Cut fd len) e i at bytes k u = absurd (other u)
  where
    other : op.Write at bytes ≡ op.Cut len → ⊥
    other q = cc
write_short table now id (call.Commit fd) e i at bytes k u = absurd (other u)
  where
    other : op.Write at bytes ≡ op.Commit → ⊥
    other q = cc
write_short table now id (call.Abort fd) e i at bytes k u = absurd (other u)
  where
    other : op.Write at bytes ≡ op.Abort → ⊥
    other q = cc
write_short table now id _ e i at bytes k u = absurd u

-- a mail writes no more than a line may have
first_part : (a b x : Bool) → (a && b && x) ≡ true → b ≡ true
first_part a true x h = refl
first_part true false x h = absurd (cc)
first_part false false x h = absurd (cc)

few_bytes : (n : ℕ) → (nat_le 1 n && nat_le n 4096) ≡ true → n ≤ file_bytes_max
few_bytes n h = (let k : n ≤ 4096 = within n h in omega (arith, k))
  where
    within : (n : ℕ) → (nat_le 1 n && nat_le n 4096) ≡ true → n ≤ 4096
    within n h = grind (arith, nat_tests)

mailed_short : (c : Config) (s process : ℕ) (words : Call) (at : ℕ) (bytes : List ℕ) → RangeCall c s process words → (at ≡ 0) × Mails words bytes → at + length bytes ≤ file_bytes_max
mailed_short c s process (call.Mail path sent) at bytes r m =
    let low : length bytes ≤ file_bytes_max = subst (λ (ys : List ℕ). length ys ≤ file_bytes_max) m.1 (few_bytes (length sent) (first_part (is_word path) (is_between 1 4096 (length sent)) (list_all is_byte sent) r.fits)) in
    omega (arith, m.0, low)
mailed_short c s process _ at bytes r m = absurd m.1

-- the name of a message is one
site_small : (s : ℕ) → s ≤ sites_max → s < 2 ^ 8
site_small s high = omega (arith, high)

name_by : (d : CallId) (words : Call) → d.site ≤ sites_max → IsNumberedLow d words → (name : List ℕ) → NameSo d words name → is_name name ≡ true
name_by d (call.Mail path bytes) high low name k = subst (λ (l : List ℕ). is_name l ≡ true) (sym k) (named d (site_small d.site high) low.boot low.n)
name_by d _ high low name k = k

name_is : (c : Config) (t : List Line) (past : Past c t) (d : CallId) (w : Waiting) → call_named (entries t) d ≡ Some w → (name : List ℕ) → NameSo d w.words name → is_name name ≡ true
name_is c t past d w its name k = (let known : IsKnownCall c d w = known_call c t past.followed past.rest.each d w its in name_by d w.words known.site.high known.name name k)

-- ---- a remove ----

did_found : (r : Outcome) (ino : ℕ) (k : Kind) → answer.Did (outcome.Found ino k) ≡ outcome_answer r → r ≡ outcome.Found ino k
did_found (outcome.Found a l) ino k e = cc
did_found (outcome.No why) ino k e = cc
did_found outcome.Done ino k e = cc
did_found (outcome.Data bytes) ino k e = cc
did_found (outcome.Committed stamp) ino k e = cc

module _ (c : Config) (t : List Line) (past : Past c t) (e : EpochId) (d : CallId) (inside : IsCallIn (entries t) e d) (i : Serial) (name : List ℕ) (ino : ℕ) (asks : Asks c t d (want.Do i (op.Remove name ino))) (x : Instance) (found : instance_now c t e i ≡ Some x) where
  f : Finding (script c (entries t) d None) (log t d) i name ino
  f = script_finding c (entries t) (call_named (entries t) d) (begun (entries t) d) i name ino (log t d) asks.asked

  acted : WasActed t d (answer.Did (outcome.Found ino f.kind)) i (op.Find f.component)
  acted = act_source c t d f.before (answer.Did (outcome.Found ino f.kind)) i (op.Find f.component) (source c t past.followed d f.before f.after (answer.Did (outcome.Found ino f.kind)) (asks.nothing_waits ∙ f.answers_are)) f.finds

  done : WasDone t e i acted.number (op.Find f.component) (outcome.Found ino f.kind)
  done = subst (λ (z : EpochId). WasDone t z i acted.number (op.Find f.component) (outcome.Found ino f.kind)) (one_epoch t acted.epoch e d acted.inside inside)
      (subst (λ (r : Outcome). WasDone t acted.epoch i acted.number (op.Find f.component) r) (did_found acted.result ino f.kind acted.answer_is) acted.done)

  only : OnlyLeft t e i
  only n o r was = subst (LeavesOn i) (taken.script_is ∙ taken.fits) (along_at (LeftSo i) (script c (entries t) d None) taken.before taken.given taken.after (subst (Along (LeftSo i) (script c (entries t) d None)) taken.log_is f.left)) refl
    where
      taken : Taken c t d (DoneSo i o)
      taken = taken_so c t d (DoneSo i o) asks.nothing_waits (done_placed c t past.followed (λ older h at j m p z k. done_named c older h at j m p z k) e d i n o r (own c t past.followed e d inside i (op.Remove name ino) asks x found (λ k. k)) (asker_unnamed c t d past.followed (asking c t d (want.Do i (op.Remove name ino)) asks)) was)

  live_pair : IsLivePair name ino (entries_of x.work.content)
  live_pair = subst (λ (n : List ℕ). IsLivePair n ino (entries_of x.work.content)) (sym f.name_is) (found_pair f.component (entries_of x.work.content) ino f.kind (entries_dir x.work.content) (finds_still c t past.followed e i x found acted.number f.component ino f.kind done only))

-- ---- an insert ----

along_front : (P : Want → Answer → Type 0) (k : Script) (xs ys : List Answer) → Along P k (xs ++ ys) → Along P k xs
along_front P k [] ys h = tt
along_front P k (a ∷ xs) ys h = (h.0, along_front P (λ zs. k (a ∷ zs)) xs ys h.1)

module _ (c : Config) (t : List Line) (past : Past c t) (e : EpochId) (d : CallId) (inside : IsCallIn (entries t) e d) (i : Serial) (name : List ℕ) (ino : ℕ) (kd : Kind) (asks : Asks c t d (want.Do i (op.Insert name ino kd))) (x : Instance) (found : instance_now c t e i ≡ Some x) where
  packs : PacksAreOfSites c
  packs = past.rest.packs

  worded : (is_name name ≡ true) × Makes inside.accepted.words
  worded = (name_is c t past d inside.accepted inside.named name asks_so.0, asks_so.1)
    where
      asks_so : NameSo d inside.accepted.words name × Makes inside.accepted.words
      asks_so = walked c t past.followed e d inside i (op.Insert name ino kd) asks x found (λ k. k)

  m : Inserts (script c (entries t) d None) (log t d) i
  m = script_inserts c (entries t) (call_named (entries t) d) (begun (entries t) d) i name ino kd (log t d) asks.asked

  taken : Along (IsAnswered c t d) (script c (entries t) d None) (m.before ++ answer.Opened i m.number ∷ m.after)
  taken = subst (Along (IsAnswered c t d) (script c (entries t) d None)) m.answers_are ((trace_named c packs t past.followed).calls d (inside.accepted, inside.named)).taken

  opens : script c (entries t) d None m.before ≡ want.Open m.dir how.Write
  opens = over m.opens (along_at (IsAnswered c t d) (script c (entries t) d None) m.before (answer.Opened i m.number) m.after taken)
    where
      over : IsOr (script c (entries t) d None m.before) (want.Open m.dir how.Write) → IsAnswered c t d (script c (entries t) d None m.before) (answer.Opened i m.number) → script c (entries t) d None m.before ≡ want.Open m.dir how.Write
      over (inl q) z = q
      over (inr q) z = absurd (subst (λ (v : Want). IsAnswered c t d v (answer.Opened i m.number)) q z)

  dir_known : kind_of_file c (entries t) m.dir ≡ kind.Dir
  dir_known = script_dir (IsAnswered c t d) (IsKnown c t) (λ at component n k q. named_known c t at.group n k q) (roots_known c t) (λ r a q. q) c (entries t) (w c t past.followed e d inside i (op.Insert name ino kd) asks x found) (b c t past.followed e d inside i (op.Insert name ino kd) asks x found) m.before m.dir worded.1
      (along_same (IsAnswered c t d) (script c (entries t) d None) (script_as c (entries t) (Some (w c t past.followed e d inside i (op.Insert name ino kd) asks x found)) (Some (b c t past.followed e d inside i (op.Insert name ino kd) asks x found)) None) (by_words c t past.followed e d inside i (op.Insert name ino kd) asks x found) m.before
      (along_front (IsAnswered c t d) (script c (entries t) d None) m.before (answer.Opened i m.number ∷ m.after) taken))
      (sym (by_words c t past.followed e d inside i (op.Insert name ino kd) asks x found m.before) ∙ opens)

  opened : WasOpened t d i m.dir
  opened = open_source c t d m.before i m.number m.dir (source c t past.followed d m.before m.after (answer.Opened i m.number) (asks.nothing_waits ∙ m.answers_are)) opens

  is : (x.grant.mode ≡ opened.in_mode) × (x.grant.file ≡ m.dir) × (x.grant.ss ≡ opened.ss) × (x.grant.call ≡ d)
  is = open_is c t past.followed e d opened.request i opened.in_mode m.dir opened.stamp opened.ss x (subst (λ (z : EpochId). WasGranted t z d opened.request i opened.in_mode m.dir opened.stamp opened.ss) (one_epoch t opened.epoch e d opened.inside inside) opened.granted) found

  on_dir : kind_of_file c (entries t) x.grant.file ≡ kind.Dir
  on_dir = subst (λ (g : FileId). kind_of_file c (entries t) g ≡ kind.Dir) (sym is.1) dir_known

  -- what is opened to be written is no message that is being made
  names : EntriesName c t x.grant.file.group x.work.content
  names = over (instances_name c t packs past.followed e i x found on_dir)
    where
      never : mode.Write ≡ mode.Make → ⊥
      never q = cc

      over : EntriesName c t x.grant.file.group x.work.content ⊎ IsLeftMessage t e x.grant → EntriesName c t x.grant.file.group x.work.content
      over (inl k) = k
      over (inr k) = absurd (never (sym (is.0 ∙ opened.writes) ∙ k.0.mode_is))

  lacks : Lacks ino (entries_of x.work.content)
  lacks = all_then (λ (y : Entry). IsEntered c t x.grant.file.group y.ino y.kind) (λ (y : Entry). y.ino ≡ ino → ⊥) (λ y k same. not_inserted c packs t past.followed e d inside i name ino kd asks x found (subst (WasInserted c t x.grant.file.group) same k.inserted)) (entries_of x.work.content) names

  named_file : NamesFile c t x.grant.file.group ino kd
  named_file = inserted_named c t past.followed (trace_named c packs t past.followed).calls packs e d inside i name ino kd asks x found

  number : IsInodeNumber ino
  number = stands_inode c (record { group = x.grant.file.group; ino = ino }) named_file.stamp t past.rest.each named_file.stands

-- ---- every operation ----

as_is : (o : Op) (seen content : List ℕ) → Acts (As o) content → ((m : Mending) → effect_of o seen m content ≡ effect (As o) content) → (m : Mending) → (z : Effect) × (effect_of o seen m content ≡ Some z)
as_is o seen content k same m = (k.0, same m ∙ k.1)

module _ (c : Config) (t : List Line) (past : Past c t) (e : EpochId) (ss : ℕ) (i : Serial) (n : ℕ) where
  pub doable : (o : Op) (seen : List ℕ) (q : OpsNow c t e ss i n o seen) → IsDoable o seen q.at.work
  doable (op.Read at len) seen q = λ m. (_, refl)
  doable (op.Cut len) seen q = λ m. (_, refl)
  doable op.Mend seen q = λ m. (_, refl)
  doable op.Abort seen q = tt
  doable (op.Write at bytes) seen q = as_is (op.Write at bytes) seen q.at.work.content (write_acts at bytes q.at.work.content low) (λ m. refl)
    where
      either : AskedBy q.call q.inside.accepted.words (b c t past.followed e q.call q.inside i (op.Write at bytes) q.asks q.at q.open_at.found) i (op.Write at bytes) → at + length bytes ≤ file_bytes_max
      either (inl m) = mailed_short c q.call.site q.inside.accepted.process q.inside.accepted.words at bytes (known_call c t past.followed past.rest.each q.call q.inside.accepted q.inside.named).range m
      either (inr (inr k)) = absurd k
      either (inr (inl u)) = write_short (starts c t past.followed e q.call q.inside i (op.Write at bytes) q.asks q.at q.open_at.found).table q.inside.accepted.epoch _ q.inside.accepted.words u.epoch i at bytes u.begins_so u.is_use

      low : at + length bytes ≤ file_bytes_max
      low = either (so c t past.followed e q.call q.inside i (op.Write at bytes) q.asks q.at q.open_at.found)
  doable (op.Probe name) seen q = as_is (op.Probe name) seen q.at.work.content (probe_acts name q.at.work.content (name_is c t past q.call q.inside.accepted q.inside.named name (walked c t past.followed e q.call q.inside i (op.Probe name) q.asks q.at q.open_at.found (λ k. k)))) (λ m. refl)
  doable (op.Find component) seen q = as_is (op.Find component) seen q.at.work.content (find_acts component q.at.work.content) (λ m. refl)
  doable op.Empty seen q = as_is op.Empty seen q.at.work.content (empty_acts q.at.work.content) (λ m. refl)
  doable (op.Rename component name) seen q = as_is (op.Rename component name) seen q.at.work.content (rename_acts component name q.at.work.content (walked c t past.followed e q.call q.inside i (op.Rename component name) q.asks q.at q.open_at.found (λ k. k))) (λ m. refl)
  doable (op.Insert name ino kd) seen q = as_is (op.Insert name ino kd) seen q.at.work.content
      (insert_acts name ino kd q.at.work.content (worded c t past e q.call q.inside i name ino kd q.asks q.at q.open_at.found).0 (number c t past e q.call q.inside i name ino kd q.asks q.at q.open_at.found).0 (number c t past e q.call q.inside i name ino kd q.asks q.at q.open_at.found).1 (lacks c t past e q.call q.inside i name ino kd q.asks q.at q.open_at.found))
      (λ m. refl)
  doable (op.Remove name ino) seen q = λ m. (k.0, k.1)
    where
      k : Acts (Removes name ino seen) q.at.work.content
      k = remove_acts name ino seen q.at.work.content (subst IsVector (sym q.sees.seen_is) (written_fits c t past q.sees.target.grant.file q.sees.stamp)) (live_pair c t past e q.call q.inside i name ino q.asks q.at q.open_at.found)
  doable op.Commit seen q = λ clean. last_stands c t past.followed e i q.at q.open_at.found
      (named_mode c t past.followed e i q.call q.inside (uses_here c t past.followed e q.call q.inside i op.Commit q.asks q.at q.open_at.found (used c t past.followed e q.call q.inside i op.Commit q.asks q.at q.open_at.found tt)) q.at q.open_at.found) clean
