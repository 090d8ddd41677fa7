-- The steps of all roles, as the laws of roles give them.
use Rattle.std.proofs.Common.{◌≡◌, ◌≤◌, length, ℕ, true, List, [], ◌∷◌, Option, Some, None, refl, sym, subst}
use Rattle.locus_ids.specs.declared.config.Config.{Config}
use Rattle.locus_ids.specs.declared.ids.EpochId.{EpochId}
use Rattle.locus_ids.specs.declared.ids.FileId.{FileId}
use Rattle.locus_ids.specs.declared.ids.Serial.{Serial}
use Rattle.locus_ids.specs.declared.ids.Stamp.{Stamp}
use Rattle.trace_book.specs.declared.record.Record.TheVariants as says
use Rattle.wire_messages.specs.declared.body.Body.{Body}
use Rattle.wire_messages.specs.declared.body.Body.TheVariants as body
use Rattle.wire_messages.specs.declared.body.Opening.{Opening}
use Rattle.wire_messages.specs.declared.body.Opening.TheVariants as how
use Rattle.wire_messages.specs.declared.packet.Packet.{Packet}
use Rattle.role_steps.specs.Looks.{LookRequest}
use Rattle.role_steps.specs.Own.{Every}
use Rattle.role_steps.specs.declared.instances.Instance.{Instance}
use Rattle.role_steps.specs.declared.instances.Stage.{Stage}
use Rattle.role_steps.specs.declared.instances.Stage.TheVariants as stage
use Rattle.role_steps.specs.Opens.{OpenRequest}
use Rattle.role_steps.specs.Pulling.{on_notify, on_page, pull_packets, on_delta}
use Rattle.role_steps.specs.Reports.{on_open, on_look}
use Rattle.role_steps.specs.Storage.{StoreRequest, closed_again, store_repeats, copy_of, on_open_ss, on_closed_ok, on_look_ss, on_pull, on_want}
use Rattle.role_steps.specs.declared.copies.FileCopy.{FileCopy}
use Rattle.role_steps.specs.Using.{users_leave}
use Rattle.role_steps.specs.Views.{Frame, Users, Store, Shown}
use Rattle.role_steps.specs.declared.pulls.Pull.{Pull}
use Rattle.role_steps.specs.declared.synchronizing.SyncTable.{SyncTable}
use Rattle.the_run.specs.Worlds.{Line}
use Rattle.tree_model.specs.Epochs.{has_joined}
use Rattle.tree_laws.specs.Doing.{IsOfUsers, NoWrite, Fine, StoreHeld, StoreFine, TableFine, PullsFact, PullsFine}
use Rattle.tree_laws.specs.Deltas.{AnswerFact, DeltaFact, WantFact}
use Rattle.tree_laws.specs.Packets.{BodyFact, PacketFact, LookFact, NotifyFact, OpenFact, OpenSsFact, ServeFact}
use Rattle.tree_laws.specs.Past.{WasReleased}
use Rattle.tree_laws.specs.Printed.{entries}
use Rattle.tree_laws.specs.Stores.{InstanceFact, StageFact}
use Rattle.store_laws.specs.Users.Leaving.{LeavesFine}
use Rattle.store_laws.proofs.Users.Leaving.{users_leave_fine}
use Rattle.store_laws.proofs.Closes.{closed_ok_fine, closed_sent}
use Rattle.store_laws.proofs.Differing.{remembered_differ}
use Rattle.store_laws.proofs.MakingHere.{open_fine as begin_fine}
use Rattle.store_laws.proofs.Pulls.{notify_fine, asked_sent}
use Rattle.store_laws.proofs.PullsComing.{page_fine, delta_fine}
use Rattle.store_laws.proofs.Serving.{look_served, page_sent, want_sent}
use Rattle.store_laws.specs.of_tree_laws.Syncs.Serving.{Serving}
use Rattle.store_laws.proofs.of_tree_laws.Syncs.Looks.{look_fine}
use Rattle.store_laws.proofs.of_tree_laws.Syncs.Makes.{make_fine}
use Rattle.store_laws.proofs.of_tree_laws.Syncs.Members.{inside_joined}
use Rattle.store_laws.proofs.of_tree_laws.Syncs.Notices.{repeats_fine}
use Rattle.store_laws.proofs.of_tree_laws.Syncs.Opens.{open_fine}
use Rattle.store_laws.specs.OneTree.Places.{UsersOf, UsersOutside}
use Rattle.store_laws.specs.OneTree.Rest.{AllRest, Past, more}
use Rattle.store_laws.specs.OneTree.Roles.{Came, Ready, RolesDo, TableHere}
use Rattle.store_laws.proofs.OneTree.NumberLacking.{full_lacks}
use Rattle.store_laws.proofs.OneTree.Repeats.{every_flat}
use Rattle.store_laws.proofs.OneTree.Staying.{rest_below}
use Rattle.rest_laws.specs.EpochTreeWaiting.{RequestsDo}
use Rattle.rest_laws.proofs.EpochTreeComing.{reports_come}
use Rattle.rest_laws.proofs.EpochTreeJoins.{epochs_do}
use Rattle.rest_laws.specs.TableNarrow.{CallsAreNarrow}
use Rattle.rest_laws.proofs.TableClosing.{closes_fine as closes_fine_there}
use Rattle.rest_laws.proofs.TableNotes.{notes_fine}
use Rattle.rest_laws.proofs.StoreStepKnown.{known_call, stands_narrow}
use Rattle.rest_laws.specs.MadeResting.{MadeRests}
use Rattle.rest_laws.proofs.MadeOpened.{opens_answered}
use Rattle.rest_laws.proofs.AdoptionChoosing.{adopts_fine}
use Rattle.rest_laws.proofs.MendStepStarting.{mends_start}
use Rattle.rest_laws.proofs.StoreStepFirst.{first_held}
use Rattle.store_laws.proofs.OneTree.UserStepAnswering as answers
use Rattle.store_laws.proofs.OneTree.UserStepCalling as calling
use Rattle.store_laws.proofs.OneTree.UserStepOpening as opening
use Rattle.store_laws.proofs.OneTree.UserStepOutside.{calls_outside}
use Rattle.rest_laws.proofs.Asked.{opens_said, user_rests}
use Rattle.rest_laws.specs.StoreStepSteps.{MendsRest}
use Rattle.rest_laws.proofs.StoreStepNamed.{released_low}
use Rattle.rest_laws.proofs.StoreStepResting.{store_rests}
use Rattle.rest_laws.proofs.StoreStepStaying.{all_stay}
use Rattle.rest_laws.proofs.StoreStepHeld.{reads_fine}
use Rattle.rest_laws.proofs.StoreStepSteps.{acts_fine, closes_fine}
use Rattle.rest_laws.proofs.MendStepWorking.{mends_as}
use Rattle.rest_laws.proofs.Premises.{files_ordered, makes_said}
use Rattle.rest_laws.proofs.Staying.{serving}

-- the fact of the packet that came
its_fact : (c : Config) (t : List Line) (f : Frame) (p : Packet) (b : Body) → Came c t f p b → BodyFact c t p b
its_fact c t f p b came = subst (BodyFact c t p) came.body_is came.fact

-- ---- the using site ----

leaves : (c : Config) (n : ℕ) (t : List Line) (f : Frame) (u : Users) → Ready c t f → UsersOf c f t u →
    Fine Users c n (more n (Shown (says.Leave f.me f.epoch)) t) (IsOfUsers f.me) (UsersOutside c f.me f.boot) NoWrite (users_leave f.me f.boot f.epoch u)
leaves c n t f u ready k =
    let l : LeavesFine c n (more n (Shown (says.Leave f.me f.epoch)) t) f u = users_leave_fine c n t f u k.inside in
    record {
      told = l.told;
      own = l.own;
      view = record { always = l.always; idle = record { none_waits = l.none_waits; has_none = l.has_none }; calls = refl; instances = refl; hopeless = refl; descriptors_ascend = k.descriptors_ascend };
      sent = tt;
      written = tt;
    }

-- ---- the storage site ----

opens : (c : Config) (n : ℕ) (t : List Line) (f : Frame) (p : Packet) (r : StoreRequest) (s : Store) → Ready c t f → StoreHeld c f t s → Came c t f p (body.OpenSs r.inst r.file r.mode r.set r.kind r.base r.vector r.parents) → AllRest c n t (on_open_ss f r s).told → StoreFine c n t f s (on_open_ss f r s)
opens c n t f p r s ready held came rest =
    begin_fine c n t ready.past.rest.packs ready.past.followed (store_rests c t ready.past) f ready.frame s held r.inst r.file r.mode r.set r.kind r.base r.vector r.parents
    (subst (λ (e : EpochId). OpenSsFact c t e f.me r.inst r.file r.mode r.set r.kind r.base r.vector r.parents) came.received.epoch_is
    (subst (λ (s : ℕ). OpenSsFact c t p.epoch s r.inst r.file r.mode r.set r.kind r.base r.vector r.parents) came.received.to_is (its_fact c t f p _ came)))
    (all_stay c n (on_open_ss f r s).told t ready.past rest)

ends : (c : Config) (n : ℕ) (t : List Line) (f : Frame) (p : Packet) (i : Serial) (s : Store) → Ready c t f → StoreHeld c f t s → Came c t f p (body.ClosedOk i) → StoreFine c n t f s (on_closed_ok f i s)
ends c n t f p i s ready held came =
    let k : WasReleased t f.epoch i = subst (λ (e : EpochId). WasReleased t e i) came.received.epoch_is (its_fact c t f p (body.ClosedOk i) came) in
    closed_ok_fine c n t (store_rests c t ready.past) f s held i (released_low c t ready.past f.epoch i k) k

serves : (c : Config) (n : ℕ) (t : List Line) (f : Frame) (p : Packet) (us : ℕ) (l : LookRequest) (stamp : Stamp) (s : Store) → Ready c t f → StoreHeld c f t s → Came c t f p (body.LookSs us l.call l.process l.request l.take l.file l.what stamp) → StoreFine c n t f s (on_look_ss f us l stamp s)
serves c n t f p us l stamp s ready held came =
    look_served c n t ready.past.followed (store_rests c t ready.past) f ready.frame s held us l.call l.process l.request l.take l.file l.what stamp
    (subst (λ (e : EpochId). ServeFact t e us l.call l.process l.request l.take l.file l.what stamp) came.received.epoch_is (its_fact c t f p (body.LookSs us l.call l.process l.request l.take l.file l.what stamp) came))

gives : (c : Config) (n : ℕ) (t : List Line) (f : Frame) (p : Packet) (file : FileId) (stamp : Stamp) (page : ℕ) (s : Store) → Ready c t f → StoreHeld c f t s → Came c t f p (body.Pull file stamp page) → StoreFine c n t f s (on_pull f p.from file stamp page s)
gives c n t f p file stamp page s ready held came = page_sent c n t ready.past.followed (store_rests c t ready.past) f s held p.from file stamp page (its_fact c t f p (body.Pull file stamp page) came)

wants : (c : Config) (n : ℕ) (t : List Line) (f : Frame) (p : Packet) (file : FileId) (wanted own : Stamp) (s : Store) → Ready c t f → StoreHeld c f t s → Came c t f p (body.Want file wanted own) → StoreFine c n t f s (on_want f p.from file wanted own s)
wants c n t f p file wanted own s ready held came = want_sent c n t f s held p.from file wanted own (subst (λ (e : EpochId). WantFact c t e p.from file wanted own) came.received.epoch_is (its_fact c t f p (body.Want file wanted own) came))

-- each close that isn't answered yet is told again
closed_once : (c : Config) (t : List Line) (f : Frame) (i : Instance) (at : Stage) → StageFact c t f i at → Every (PacketFact c t) (closed_again f i at)
closed_once c t f i (stage.Closing made a) k = closed_sent c t f i made a k.0
closed_once c t f i _ k = tt

all_closed : (c : Config) (t : List Line) (f : Frame) (is : List Instance) → Every (InstanceFact c t f) is → Every (λ (i : Instance). Every (PacketFact c t) (closed_again f i i.stage)) is
all_closed c t f [] k = tt
all_closed c t f (i ∷ is) k = (closed_once c t f i i.stage k.0.stage, all_closed c t f is k.1)

stores_again : (c : Config) (t : List Line) (f : Frame) (s : Store) → StoreHeld c f t s → Every (PacketFact c t) (store_repeats f s)
stores_again c t f s held = every_flat (PacketFact c t) (λ (i : Instance). closed_again f i i.stage) s.instances (all_closed c t f s.instances held.instances.instances)

-- ---- the synchronization site of a group ----

table_opens : (c : Config) (n : ℕ) (t : List Line) (f : Frame) (from : ℕ) (tab : SyncTable) → Past c t → Serving c n t f tab → (serial call process request : ℕ) (file : FileId) (q : Opening) → file.group ≡ tab.group →
    OpenFact c t f.epoch from serial call process request file q → TableFine c n t f tab.group (on_open f from (record { serial = serial; call = call; process = process; request = request; file = file; how = q }) tab)
table_opens c n t f from tab past ready serial call process request file (how.Make set k) group_is fact = make_fine c n t f tab ready (makes_said c t past) from serial call process request file set k group_is fact
table_opens c n t f from tab past ready serial call process request file how.Read group_is fact = open_fine c n t f tab ready (files_ordered c t past f.epoch) from (record { serial = serial; call = call; process = process; request = request; file = file; how = how.Read }) tt group_is fact
table_opens c n t f from tab past ready serial call process request file how.Write group_is fact = open_fine c n t f tab ready (files_ordered c t past f.epoch) from (record { serial = serial; call = call; process = process; request = request; file = file; how = how.Write }) tt group_is fact
table_opens c n t f from tab past ready serial call process request file how.Mend group_is fact = open_fine c n t f tab ready (files_ordered c t past f.epoch) from (record { serial = serial; call = call; process = process; request = request; file = file; how = how.Mend }) tt group_is fact
table_opens c n t f from tab past ready serial call process request file (how.Resolve site) group_is fact = open_fine c n t f tab ready (files_ordered c t past f.epoch) from (record { serial = serial; call = call; process = process; request = request; file = file; how = how.Resolve site }) tt group_is fact

tab_opens : (c : Config) → (n : ℕ) (t : List Line) (f : Frame) (p : Packet) (o : OpenRequest) (tab : SyncTable) → Ready c t f → TableHere c t f tab → Came c t f p (body.Open o.serial o.call o.process o.request o.file o.how) → tab.group ≡ o.file.group → TableFine c n t f o.file.group (on_open f p.from o tab)
tab_opens c n t f p o tab ready here came group_is = subst (λ (g : ℕ). TableFine c n t f g (on_open f p.from o tab)) group_is
    (table_opens c n t f p.from tab ready.past (serving c n t f tab ready.past ready.frame (opens_said c t ready.past) here) o.serial o.call o.process o.request o.file o.how (sym group_is)
    (subst (λ (e : EpochId). OpenFact c t e p.from o.serial o.call o.process o.request o.file o.how) came.received.epoch_is (its_fact c t f p (body.Open o.serial o.call o.process o.request o.file o.how) came)))

tab_looks : (c : Config) → (n : ℕ) (t : List Line) (f : Frame) (p : Packet) (l : LookRequest) (tab : SyncTable) → Ready c t f → TableHere c t f tab → Came c t f p (body.Look l.call l.process l.request l.take l.file l.what) → tab.group ≡ l.file.group → TableFine c n t f l.file.group (on_look f p.from l tab)
tab_looks c n t f p l tab ready here came group_is = subst (λ (g : ℕ). TableFine c n t f g (on_look f p.from l tab)) group_is
    (look_fine c n t f tab (serving c n t f tab ready.past ready.frame (opens_said c t ready.past) here) p.from l (sym group_is)
    (subst (λ (e : EpochId). LookFact c t e p.from l.call l.process l.request l.take l.file l.what) came.received.epoch_is (its_fact c t f p (body.Look l.call l.process l.request l.take l.file l.what) came)))

-- so requests are served as they come, and what waits for the start of a group is too
requests : (c : Config) → RequestsDo c
requests c = record {
  opens = λ n t f p o tab ready here came is rest. tab_opens c n t f p o tab ready here came is;
  looks = λ n t f p l tab ready here came is rest. tab_looks c n t f p l tab ready here came is;
}

-- ---- propagation ----

-- over which copy it is pulled, and which pages of it, is chosen as it begins
begins_any : (f : Frame) (from : ℕ) (o : Option FileCopy) (p : Pull) (ps : List Pull) → on_notify f from o (record p { base = None; wanted = None }) ps ≡ on_notify f from o p ps
begins_any f from None p ps = refl
begins_any f from (Some own) p ps = refl

notified : (c : Config) (n : ℕ) (t : List Line) (f : Frame) (p : Packet) (pull : Pull) (s : Store) (ps : List Pull) → Ready c t f → StoreHeld c f t s → PullsFact c f t ps → pull.content ≡ [] →
    Came c t f p (body.Notify pull.file pull.kind pull.set pull.size pull.stamp pull.vector pull.holder) → PullsFine c n t f (on_notify f p.from (copy_of s pull.file) pull ps)
notified c n t f p pull s ps ready held all empty came =
    subst (PullsFine c n t f) (begins_any f p.from (copy_of s pull.file) pull ps)
    (subst (λ (b : List ℕ). PullsFine c n t f (on_notify f p.from (copy_of s pull.file) (record pull { base = None; wanted = None; content = b }) ps)) (sym empty)
    (notify_fine c n t ready.past.followed (store_rests c t ready.past) f ready.frame s held.copies ps all p.from pull.file pull.kind pull.set pull.size pull.stamp pull.vector pull.holder
    (subst (λ (me : ℕ). NotifyFact c t f.epoch me pull.file pull.kind pull.set pull.size pull.stamp pull.vector pull.holder) came.received.to_is
    (subst (λ (e : EpochId). NotifyFact c t e p.to pull.file pull.kind pull.set pull.size pull.stamp pull.vector pull.holder) came.received.epoch_is (its_fact c t f p (body.Notify pull.file pull.kind pull.set pull.size pull.stamp pull.vector pull.holder) came)))))

paged : (c : Config) (n : ℕ) (t : List Line) (f : Frame) (p : Packet) (file : FileId) (stamp : Stamp) (page : ℕ) (bytes : List ℕ) (ps : List Pull) → Ready c t f → PullsFact c f t ps → Came c t f p (body.Page file stamp page bytes) → PullsFine c n t f (on_page f file stamp page bytes ps)
paged c n t f p file stamp page bytes ps ready all came = page_fine c n t ready.past.followed (store_rests c t ready.past) f ready.frame ps all file stamp page bytes (its_fact c t f p (body.Page file stamp page bytes) came)

told : (c : Config) (n : ℕ) (t : List Line) (f : Frame) (p : Packet) (own : Option FileCopy) (file : FileId) (wanted : Stamp) (pages : List ℕ) (ps : List Pull) → Ready c t f → PullsFact c f t ps → Came c t f p (body.Delta file wanted pages) → DeltaFact c t f.me ps file wanted pages → PullsFine c n t f (on_delta f own file wanted pages ps)
told c n t f p own file wanted pages ps ready all came delta =
    delta_fine c n t ready.past.followed (store_rests c t ready.past) f ready.frame ps all own file wanted pages
    (subst (λ (me : ℕ). AnswerFact c t f.epoch me file wanted) came.received.to_is (subst (λ (e : EpochId). AnswerFact c t e p.to file wanted) came.received.epoch_is (its_fact c t f p (body.Delta file wanted pages) came))) delta

-- what is asked next of each pull stands
pulls_again : (c : Config) (t : List Line) (f : Frame) (ps : List Pull) → has_joined (entries t) f.me f.epoch ≡ true → PullsFact c f t ps → Every (λ (x : Pull). Every (PacketFact c t) (pull_packets f x)) ps
pulls_again c t f [] joined all = tt
pulls_again c t f (x ∷ xs) joined all = (asked_sent c t f x joined all.0, pulls_again c t f xs joined all.1)

-- ---- all ----

mends_rest : (c : Config) → length c.packs ≤ 4 → MendsRest c
mends_rest c few = record { mends = λ t f v ready inside inst low i found d here asks. mends_as c t f v ready.past inside few inst low i found d here asks }

made_rests : (c : Config) → MadeRests c
made_rests c = record {
  serves = λ n t f tab ready here. serving c n t f tab ready.past ready.frame (opens_said c t ready.past) here;
  said = makes_said c;
  lacks = λ trace past e ss i group set k now full. full_lacks c trace past.followed (rest_below c trace past.rest) e ss i group set k now full;
}

narrow : (c : Config) → CallsAreNarrow c
narrow c = record { sites = λ t past d w named. (known_call c t past.followed past.rest.each d w named).site.high }

pub roles_do : (c : Config) → length c.packs ≤ 4 → RolesDo c
roles_do c few = record {
  users = record {
    calls = λ n t f process words u ready k may rest. calling.calls c (user_rests c few) n t f process words u ready k may rest;
    calls_outside = λ n t me boot process words u past up outside k may rest. calls_outside c n t me boot process words u past up outside k may;
    opened = λ n t f p serial a v ready k came rest. opening.opened c (user_rests c few) n t f p serial a v ready k came rest;
    acted = λ n t f p serial k r u ready has came rest. answers.acted c (user_rests c few) n t f p serial k r u ready has came rest;
    held = λ n t f p serial k len u ready has came rest. answers.held c (user_rests c few) n t f p serial k len u ready has came rest;
    closed = λ n t f p serial a u ready has came rest. answers.closed c (user_rests c few) n t f p serial a u ready has came rest;
    looked = λ n t f p call request take a u ready k came rest. answers.looked c (user_rests c few) n t f p call request take a u ready k came rest;
    leaves = λ n t f u ready k rest. leaves c n t f u ready k;
  };
  stores = record {
    first = λ me. first_held c few me;
    narrow = λ t past f stamp stands. stands_narrow c t past.rest.each f stamp stands;
    opens = λ n t f p r s ready held came rest. opens c n t f p r s ready held came rest;
    acts = λ n t f p serial k o seen v ready inside came rest. acts_fine c (mends_rest c few) n t f p serial k o seen v ready inside came rest;
    reads = λ n t f p serial k at len s ready held came rest. reads_fine c n t f p serial k at len s ready held came rest;
    closes = λ n t f p serial s ready held came rest. closes_fine c n t f p serial s ready held came rest;
    ends = λ n t f p i s ready held came rest. ends c n t f p i s ready held came;
    serves = λ n t f p us l stamp s ready held came rest. serves c n t f p us l stamp s ready held came;
    gives = λ n t f p file stamp page s ready held came rest. gives c n t f p file stamp page s ready held came;
    wants = λ n t f p file wanted own s ready held came rest. wants c n t f p file wanted own s ready held came;
    differs = λ t f file wanted own s ready held one two. remembered_differ c t file (store_rests c t ready.past).narrow s.steps held.instances.steps own wanted two one;
    repeats = λ t f s ready held. stores_again c t f s held;
  };
  tables = record {
    reports = λ n t f p group copies tab ready here came is rest. reports_come c (requests c) n t f p group copies tab ready here came is rest;
    opens = λ n t f p o tab ready here came group_is rest. tab_opens c n t f p o tab ready here came group_is;
    opened = λ n t f p i a tab ready here came fresh. opens_answered c (made_rests c) n t f p i a tab ready here came fresh;
    closed = λ n t f p i made tab ready here came rest. closes_fine_there c (narrow c) n t f p i made tab ready here came rest;
    looks = λ n t f p l tab ready here came group_is rest. tab_looks c n t f p l tab ready here came group_is;
    notes = λ n t f p file stamp tab ready here came same rest. notes_fine c n t f p file stamp tab ready here came same;
    repeats = λ t f tab ready here. repeats_fine c t f tab here.fact;
  };
  pulls = record {
    notified = λ n t f p pull s ps ready held all empty came. notified c n t f p pull s ps ready held all empty came;
    paged = λ n t f p file stamp page bytes ps ready all came. paged c n t f p file stamp page bytes ps ready all came;
    told = λ n t f p own file wanted pages ps ready all came delta. told c n t f p own file wanted pages ps ready all came delta;
    repeats = λ t f ps ready all. every_flat (PacketFact c t) (pull_packets f) ps (pulls_again c t f ps (inside_joined c t ready.past.followed f.me f.epoch ready.frame.inside) all);
    adopts = λ n t f v ready inside fresh. adopts_fine c n t f v ready inside fresh;
    mends = λ n t f v ready inside rest. mends_start c (user_rests c few) n t f v ready inside rest;
  };
  epochs = epochs_do c;
}
