-- What a script leads a call to: each change is of what was asked to write, and each descriptor that may write too.
use Rattle.std.proofs.Common.{◌≡◌, ℕ, ◌⊎◌, Bool, true, false, cond, List, [], ◌∷◌, ◌++◌, Option, Some, None, refl, sym, ◌∙◌, ap, subst, inl, inr}
use Rattle.locus_ids.specs.declared.ids.CallId.{CallId}
use Rattle.locus_ids.specs.declared.ids.FileId.{FileId}
use Rattle.locus_ids.specs.declared.ids.Kind.{Kind}
use Rattle.locus_ids.specs.declared.ids.Kind.TheVariants as kind
use Rattle.locus_ids.specs.declared.ids.Serial.{Serial}
use Rattle.locus_ids.specs.declared.config.Mount.{Mount}
use Rattle.locus_ids.specs.declared.refusal.Refusal.{Refusal}
use Rattle.locus_ids.specs.declared.refusal.Refusal.TheVariants as refusal
use Rattle.commit_graph.specs.Grants.{is_read}
use Rattle.trace_book.specs.declared.call.Call.{Call}
use Rattle.trace_book.specs.declared.call.Call.TheVariants as call
use Rattle.trace_book.specs.declared.call.OpenMode.{OpenMode}
use Rattle.trace_book.specs.declared.call.OpenMode.TheVariants as how
use Rattle.trace_book.specs.declared.operation.Op.{Op}
use Rattle.trace_book.specs.declared.operation.What.TheVariants as what
use Rattle.trace_book.specs.declared.reply.Reply.{Reply}
use Rattle.trace_book.specs.declared.reply.Reply.TheVariants as reply
use Rattle.trace_book.specs.declared.descriptor.Beginning.{Beginning}
use Rattle.trace_book.specs.declared.descriptor.Beginning.TheVariants as begins
use Rattle.trace_book.specs.Names.{components}
use Rattle.call_rules.specs.declared.answer.Answer.{Answer}
use Rattle.call_rules.specs.declared.answer.Answer.TheVariants as answer
use Rattle.call_rules.specs.declared.want.Want.{Want}
use Rattle.call_rules.specs.declared.want.Want.TheVariants as want
use Rattle.call_rules.specs.Words.{is_badly_named}
use Rattle.call_rules.specs.Walks.{Walked, Asks, Fails, There, Strays, root_of, mounted_in, passes, walk, walked}
use Rattle.call_rules.specs.Opening.{mode_of, opens_file}
use Rattle.call_rules.specs.Scripts.{path_wants, begun_wants, named_wants, where_packed}
use Rattle.role_steps.specs.Views.{Frame, Users}
use Rattle.role_steps.specs.Requests.{descriptors_of}
use Rattle.role_steps.specs.Using.{last_opened, no_serial, mode_asked, is_packed, next_want}
use Rattle.call_rules.specs.Descriptors.{lowest_free}
use Rattle.role_steps.specs.declared.users.WaitingCall.{WaitingCall}
use Rattle.site_laws.specs.Locks.Writing.{changes, ToWrite, OpensToWrite, Opens, IsOpenedToWrite, IsWriteOn}
use Rattle.site_laws.proofs.Locks.Writing.{scripts_sound}
use Rattle.site_laws.specs.Packs.WriterAsking.{Serials, AnswersFact, Brings, script_of, CallFact}

-- ---- answers ----

pub answer_found : (G : Serials) (script : List Answer → Want) (before : List Answer) (a : Answer) (after : List Answer) (i : Serial) → AnswersFact G script (before ++ a ∷ after) → OpensToWrite (script before) → Brings i a → G i.serial
answer_found G script [] a after i h asked opened = h.0 i asked opened
answer_found G script (x ∷ xs) a after i h asked opened = answer_found G (λ (ys : List Answer). script (x ∷ ys)) xs a after i h.1 asked opened

pub answer_added : (G : Serials) (script : List Answer → Want) (answers : List Answer) (a : Answer) → AnswersFact G script answers → ((i : Serial) → OpensToWrite (script answers) → Brings i a → G i.serial) → AnswersFact G script (answers ++ a ∷ [])
answer_added G script [] a h k = (k, tt)
answer_added G script (x ∷ xs) a h k = (h.0, answer_added G (λ (ys : List Answer). script (x ∷ ys)) xs a h.1 k)

last_is : (d i : Serial) (a : Answer) (used : List Answer) → ((old : Serial) → last_opened old (a ∷ []) ≡ i) → last_opened d (used ++ a ∷ []) ≡ i
last_is d i a [] k = k d
last_is d i a (answer.Opened found n ∷ rest) k = last_is found i a rest k
last_is d i a (answer.Reading found version ∷ rest) k = last_is found i a rest k
last_is d i a (_ ∷ rest) k = last_is d i a rest k

opens_brings : (i : Serial) (a : Answer) → Opens i a → Brings i a
opens_brings i (answer.Opened inst ino) h = h
opens_brings i (answer.Merging inst kept) h = h
opens_brings i _ h = absurd h

-- ---- walks ----

-- the walk has come there with these answers left, and comes there with any others in their place
record Reaches (mounts : List Mount) (cs : List (List ℕ)) (reached : List ℕ) (at : FileId) (k : Kind) (answers : List Answer) (there : FileId) (found : Kind) (rest : List Answer) : Type 0 where
  used : List Answer
  answers_are : answers ≡ used ++ rest
  again : (others : List Answer) → walk mounts cs reached at k (used ++ others) ≡ There there found others

there_is : (at there : FileId) (k found : Kind) (answers rest : List Answer) → There at k answers ≡ There there found rest → (at ≡ there) × ((k ≡ found) × (answers ≡ rest))
there_is at there k found answers rest e = (cc, (cc, cc))

asks_there : (dir there : FileId) (c : List ℕ) (found : Kind) (rest : List Answer) → Asks dir c ≡ There there found rest → ⊥
asks_there dir there c found rest e = cc

fails_there : (why : Refusal) (there : FileId) (found : Kind) (rest : List Answer) → Fails why ≡ There there found rest → ⊥
fails_there why there found rest e = cc

strays_there : (there : FileId) (found : Kind) (rest : List Answer) → Strays ≡ There there found rest → ⊥
strays_there there found rest e = cc

reach : (mounts : List Mount) (cs : List (List ℕ)) (reached : List ℕ) (at : FileId) (k : Kind) (answers : List Answer) (there : FileId) (found : Kind) (rest : List Answer) → walk mounts cs reached at k answers ≡ There there found rest → Reaches mounts cs reached at k answers there found rest
reach mounts [] reached at k answers there found rest e =
    let t : (at ≡ there) × ((k ≡ found) × (answers ≡ rest)) = there_is at there k found answers rest e in
    record { used = []; answers_are = t.1.1; again = λ others. λ j. There (t.0 j) (t.1.0 j) others }
reach mounts (c ∷ cs) reached at kind.File answers there found rest e = absurd (fails_there _ there found rest e)
reach mounts (c ∷ cs) reached at kind.Dir answers there found rest e = by_mount (λ next k xs f. reach mounts cs c next k xs there found rest f) (mounted_in mounts at c) refl answers e
  where
    further : Type 0
    further = (next : FileId) (k : Kind) (xs : List Answer) → walk mounts cs c next k xs ≡ There there found rest → Reaches mounts cs c next k xs there found rest

    by_mount : further → (o : Option ℕ) → mounted_in mounts at c ≡ o → (answers : List Answer) → passes (walk mounts cs c) at c o answers ≡ There there found rest → Reaches mounts (c ∷ cs) reached at kind.Dir answers there found rest
    by_mount go (Some group) m answers e =
        let r : Reaches mounts cs c (root_of group) kind.Dir answers there found rest = go (root_of group) kind.Dir answers e in
        record { used = r.used; answers_are = r.answers_are; again = λ others. subst (λ (o : Option ℕ). passes (walk mounts cs c) at c o (r.used ++ others) ≡ There there found others) (sym m) (r.again others) }
    by_mount go None m [] e = absurd (asks_there at there c found rest e)
    by_mount go None m (answer.Entered ino k ∷ tail) e =
        let next : FileId = record { group = at.group; ino = ino } in
        let r : Reaches mounts cs c next k tail there found rest = go next k tail e in
        record { used = answer.Entered ino k ∷ r.used; answers_are = ap (λ (xs : List Answer). answer.Entered ino k ∷ xs) r.answers_are; again = λ others. subst (λ (o : Option ℕ). passes (walk mounts cs c) at c o (answer.Entered ino k ∷ (r.used ++ others)) ≡ There there found others) (sym m) (r.again others) }
    by_mount go None m (answer.Refused why ∷ tail) e = absurd (fails_there why there found rest e)
    by_mount go None m (_ ∷ tail) e = absurd (strays_there there found rest e)

walked_there : (mounts : List Mount) (path : List (List ℕ)) (next : FileId → Kind → List Answer → Want) (answers : List Answer) (there : FileId) (found : Kind) (rest : List Answer) → walk mounts path [] (root_of 0) kind.Dir answers ≡ There there found rest → walked mounts path answers next ≡ next there found rest
walked_there mounts path next answers there found rest e = rw e refl

asks_ends : (mounts : List Mount) (path : List (List ℕ)) (next : FileId → Kind → List Answer → Want) (answers : List Answer) (dir : FileId) (name : List ℕ) → walk mounts path [] (root_of 0) kind.Dir answers ≡ Asks dir name → walked mounts path answers next ≡ want.Look dir (what.Name name)
asks_ends mounts path next answers dir name w = rw w refl

fails_ends : (mounts : List Mount) (path : List (List ℕ)) (next : FileId → Kind → List Answer → Want) (answers : List Answer) (why : Refusal) → walk mounts path [] (root_of 0) kind.Dir answers ≡ Fails why → walked mounts path answers next ≡ want.Give (reply.No why)
fails_ends mounts path next answers why w = rw w refl

strays_ends : (mounts : List Mount) (path : List (List ℕ)) (next : FileId → Kind → List Answer → Want) (answers : List Answer) → walk mounts path [] (root_of 0) kind.Dir answers ≡ Strays → walked mounts path answers next ≡ want.Never
strays_ends mounts path next answers w = rw w refl

-- ---- the free descriptor changes no open ----

opens_alike : (m : OpenMode) (f g : Option ℕ) (at : FileId) (k : Kind) (rest : List Answer) → OpensToWrite (opens_file m f at k rest) → OpensToWrite (opens_file m g at k rest)
opens_alike m f g at kind.Dir rest h = h
opens_alike m f g at kind.File [] h = h
opens_alike m (Some fd) g at kind.File (answer.Opened i ino ∷ []) h = absurd h
opens_alike m (Some fd) g at kind.File (answer.Reading i version ∷ []) h = absurd h
opens_alike m f g at kind.File (answer.Refused why ∷ []) h = absurd h
opens_alike m f g at kind.File (_ ∷ rest) h = absurd h

walk_alike : (mounts : List Mount) (path : List (List ℕ)) (m : OpenMode) (f g : Option ℕ) (answers : List Answer) → OpensToWrite (walked mounts path answers (opens_file m f)) → OpensToWrite (walked mounts path answers (opens_file m g))
walk_alike mounts path m f g answers h = by_walk (walk mounts path [] (root_of 0) kind.Dir answers) refl
  where
    by_walk : (w : Walked) → walk mounts path [] (root_of 0) kind.Dir answers ≡ w → OpensToWrite (walked mounts path answers (opens_file m g))
    by_walk (Asks dir name) w = absurd (subst OpensToWrite (asks_ends mounts path (opens_file m f) answers dir name w) h)
    by_walk (Fails why) w = absurd (subst OpensToWrite (fails_ends mounts path (opens_file m f) answers why w) h)
    by_walk Strays w = absurd (subst OpensToWrite (strays_ends mounts path (opens_file m f) answers w) h)
    by_walk (There at k rest) w = subst OpensToWrite (sym (walked_there mounts path (opens_file m g) answers at k rest w)) (opens_alike m f g at k rest (subst OpensToWrite (walked_there mounts path (opens_file m f) answers at k rest w) h))

path_alike : (mounts : List Mount) (f g : Option ℕ) (id : CallId) (words : Call) (answers : List Answer) → OpensToWrite (path_wants mounts f id words answers) → OpensToWrite (path_wants mounts g id words answers)
path_alike mounts f g id (call.Open path m) answers h = walk_alike mounts (components path) m f g answers h
path_alike mounts f g id (call.Create path sites) answers h = h
path_alike mounts f g id (call.MakeDir path) answers h = h
path_alike mounts f g id (call.Unlink path) answers h = h
path_alike mounts f g id (call.RemoveDir path) answers h = h
path_alike mounts f g id (call.Rename path name) answers h = h
path_alike mounts f g id (call.List path) answers h = h
path_alike mounts f g id (call.Stat path) answers h = h
path_alike mounts f g id (call.Mail path bytes) answers h = h
path_alike mounts f g id (call.Mails path) answers h = h
path_alike mounts f g id (call.Mend file) answers h = h
path_alike mounts f g id _ answers h = absurd h

begun_alike : (mounts : List Mount) (f g : Option ℕ) (words : Call) (b : Beginning) (answers : List Answer) → OpensToWrite (begun_wants mounts f words b answers) → OpensToWrite (begun_wants mounts g words b answers)
begun_alike mounts f g words (begins.Denied why) answers h = h
begun_alike mounts f g words (begins.Uses epoch i) answers h = h
begun_alike mounts f g words (begins.Walks id) answers h = path_alike mounts f g id words answers h
begun_alike mounts f g words (begins.Reopens kept last) answers h = h
begun_alike mounts f g words begins.Frees answers h = h

bad_ends : (mounts : List Mount) (f : Option ℕ) (words : Call) (b : Beginning) (answers : List Answer) → is_badly_named mounts words ≡ true → named_wants mounts f words b answers ≡ want.Give (reply.No refusal.BadName)
bad_ends mounts f words b answers n = rw n refl

good_goes : (mounts : List Mount) (f : Option ℕ) (words : Call) (b : Beginning) (answers : List Answer) → is_badly_named mounts words ≡ false → named_wants mounts f words b answers ≡ begun_wants mounts f words b answers
good_goes mounts f words b answers n = rw n refl

pub named_alike : (mounts : List Mount) (f g : Option ℕ) (words : Call) (b : Beginning) (answers : List Answer) → OpensToWrite (named_wants mounts f words b answers) → OpensToWrite (named_wants mounts g words b answers)
named_alike mounts f g words b answers h = by_names (is_badly_named mounts words) refl
  where
    by_names : (n : Bool) → is_badly_named mounts words ≡ n → OpensToWrite (named_wants mounts g words b answers)
    by_names true n = absurd (subst OpensToWrite (bad_ends mounts f words b answers n) h)
    by_names false n = subst OpensToWrite (sym (good_goes mounts g words b answers n)) (begun_alike mounts f g words b answers (subst OpensToWrite (good_goes mounts f words b answers n) h))

-- ---- the descriptor that an open takes ----

abbrev OpenedFd : Want → Type 0
OpenedFd (want.Give (reply.Opened fd)) = Unit {0}
OpenedFd _ = ⊥

to_write : (m : OpenMode) → is_read (mode_of m) ≡ false → ToWrite m
to_write how.Read e = absurd (cc)
to_write how.Steady e = absurd (cc)
to_write how.Write e = tt
to_write (how.Resolve site) e = tt

-- the last answer opened it
record TakesOpened (m : OpenMode) (f : Option ℕ) (at : FileId) (k : Kind) (rest : List Answer) : Type 0 where
  inst : Serial
  opening : Answer
  rest_is : rest ≡ opening ∷ []
  brings : Brings inst opening
  last : (old : Serial) → last_opened old (opening ∷ []) ≡ inst
  asked : opens_file m f at k [] ≡ want.Open at m

opens_takes : (m : OpenMode) (f : Option ℕ) (at : FileId) (k : Kind) (rest : List Answer) → OpenedFd (opens_file m f at k rest) → TakesOpened m f at k rest
opens_takes m f at kind.Dir rest h = absurd h
opens_takes m f at kind.File [] h = absurd h
opens_takes m (Some fd) at kind.File (answer.Opened i ino ∷ []) h = record { inst = i; opening = answer.Opened i ino; rest_is = refl; brings = refl; last = λ old. refl; asked = refl }
opens_takes m (Some fd) at kind.File (answer.Reading i version ∷ []) h = record { inst = i; opening = answer.Reading i version; rest_is = refl; brings = refl; last = λ old. refl; asked = refl }
opens_takes m f at kind.File (answer.Refused why ∷ []) h = absurd h
opens_takes m f at kind.File (_ ∷ rest) h = absurd h

walk_takes : (G : Serials) (mounts : List Mount) (path : List (List ℕ)) (m : OpenMode) (f : Option ℕ) (answers : List Answer) → AnswersFact G (λ (xs : List Answer). walked mounts path xs (opens_file m f)) answers → OpenedFd (walked mounts path answers (opens_file m f)) → ToWrite m → G (last_opened no_serial answers).serial
walk_takes G mounts path m f answers a h to = by_walk (walk mounts path [] (root_of 0) kind.Dir answers) refl
  where
    script : List Answer → Want
    script xs = walked mounts path xs (opens_file m f)

    by_walk : (w : Walked) → walk mounts path [] (root_of 0) kind.Dir answers ≡ w → G (last_opened no_serial answers).serial
    by_walk (Asks dir name) w = absurd (subst OpenedFd (asks_ends mounts path (opens_file m f) answers dir name w) h)
    by_walk (Fails why) w = absurd (subst OpenedFd (fails_ends mounts path (opens_file m f) answers why w) h)
    by_walk Strays w = absurd (subst OpenedFd (strays_ends mounts path (opens_file m f) answers w) h)
    by_walk (There at k rest) w =
        let r : Reaches mounts path [] (root_of 0) kind.Dir answers at k rest = reach mounts path [] (root_of 0) kind.Dir answers at k rest w in
        let t : TakesOpened m f at k rest = opens_takes m f at k rest (subst OpenedFd (walked_there mounts path (opens_file m f) answers at k rest w) h) in
        let all : answers ≡ r.used ++ t.opening ∷ [] = r.answers_are ∙ ap (λ (xs : List Answer). r.used ++ xs) t.rest_is in
        let asked : script r.used ≡ want.Open at m = ap script (sym (plus_none r.used)) ∙ (walked_there mounts path (opens_file m f) (r.used ++ []) at k [] (r.again []) ∙ t.asked) in
        let found : G t.inst.serial = answer_found G script r.used t.opening [] t.inst (subst (AnswersFact G script) all a) (subst OpensToWrite (sym asked) to) t.brings in
        subst (λ (i : Serial). G i.serial) (sym (ap (last_opened no_serial) all ∙ last_is no_serial t.inst t.opening r.used t.last)) found
      where
        plus_none : (xs : List Answer) → xs ++ [] ≡ xs
        plus_none [] = refl
        plus_none (x ∷ xs) = ap (λ (ys : List Answer). x ∷ ys) (plus_none xs)

-- a script that starts as this one has the same answers
answers_same : (G : Serials) (one other : List Answer → Want) (answers : List Answer) → ((xs : List Answer) → one xs ≡ other xs) → AnswersFact G one answers → AnswersFact G other answers
answers_same G one other [] same h = tt
answers_same G one other (a ∷ rest) same h = (λ i asked opened. h.0 i (subst OpensToWrite (sym (same [])) asked) opened, answers_same G (λ (xs : List Answer). one (a ∷ xs)) (λ (xs : List Answer). other (a ∷ xs)) rest (λ xs. same (a ∷ xs)) h.1)

-- an open that takes a descriptor to write has asked to write
pub reply_takes : (G : Serials) (mounts : List Mount) (f : Option ℕ) (words : Call) (b : Beginning) (answers : List Answer) → AnswersFact G (named_wants mounts f words b) answers → OpenedFd (named_wants mounts f words b answers) → is_read (mode_asked words) ≡ false → G (last_opened no_serial answers).serial
reply_takes G mounts f (call.Open path m) b answers a h r = by_names (is_badly_named mounts (call.Open path m)) refl
  where
    begun : (b : Beginning) → AnswersFact G (begun_wants mounts f (call.Open path m) b) answers → OpenedFd (begun_wants mounts f (call.Open path m) b answers) → G (last_opened no_serial answers).serial
    begun (begins.Denied why) k t = absurd t
    begun (begins.Uses epoch i) k t = absurd t
    begun (begins.Reopens kept last) k t = absurd t
    begun begins.Frees k t = absurd t
    begun (begins.Walks id) k t = walk_takes G mounts (components path) m f answers k t (to_write m r)

    by_names : (n : Bool) → is_badly_named mounts (call.Open path m) ≡ n → G (last_opened no_serial answers).serial
    by_names true n = absurd (subst OpenedFd (bad_ends mounts f (call.Open path m) b answers n) h)
    by_names false n = begun b (answers_same G (named_wants mounts f (call.Open path m) b) (begun_wants mounts f (call.Open path m) b) answers (λ xs. good_goes mounts f (call.Open path m) b xs n) a) (subst OpenedFd (good_goes mounts f (call.Open path m) b answers n) h)
reply_takes G mounts f _ b answers a h r = absurd (cc)

-- ---- what comes next ----

abbrev pub ReplyLeads : Serials → WaitingCall → Reply → Type 0
ReplyLeads G w (reply.Opened fd) = is_read (mode_asked w.words) ≡ false → G (last_opened no_serial w.answers).serial
ReplyLeads G w _ = Unit {0}

-- an open is sent to a synchronization site, and is for reading alone only where the script says so
abbrev pub Leads : Serials → Frame → WaitingCall → Want → Type 0
Leads G f w (want.Open file m) = (is_packed f file.group ≡ true) × ((free : Option ℕ) → OpensToWrite (script_of f.config w free w.answers) → ToWrite m)
Leads G f w (want.OpenToMend file) = is_packed f file.group ≡ true
Leads G f w (want.Make group kind sites) = is_packed f group ≡ true
Leads G f w (want.Do i o) = changes o ≡ true → G i.serial
Leads G f w (want.Give r) = ReplyLeads G w r
Leads G f w _ = Unit {0}

change_leads : (G : Serials) (f : Frame) (w : WaitingCall) (free : Option ℕ) (i : Serial) (o : Op) → CallFact f.config G w → script_of f.config w free w.answers ≡ want.Do i o → changes o ≡ true → G i.serial
change_leads G f w free i o h e c = either (scripts_sound f.config.mounts free w.words w.begins w.answers i o e c)
  where
    either : IsWriteOn w.words w.begins i ⊎ IsOpenedToWrite (script_of f.config w free) w.answers i → G i.serial
    either (inl k) = h.begins i k
    either (inr k) = answer_found G (script_of f.config w free) k.before k.opening k.after i (subst (AnswersFact G (script_of f.config w free)) k.answers_are (h.answers free)) k.asked (opens_brings i k.opening k.opened)

reply_leads : (G : Serials) (f : Frame) (w : WaitingCall) (free : Option ℕ) (r : Reply) → CallFact f.config G w → script_of f.config w free w.answers ≡ want.Give r → ReplyLeads G w r
reply_leads G f w free (reply.Opened fd) h e = λ read. reply_takes G f.config.mounts free w.words w.begins w.answers (h.answers free) (subst OpenedFd (sym e) tt) read
reply_leads G f w free _ h e = tt

packed_leads : (G : Serials) (f : Frame) (w : WaitingCall) (group : ℕ) (x : Want) → (is_packed f group ≡ true → Leads G f w x) → Leads G f w (cond (is_packed f group) x (want.Give (reply.No refusal.NoStorage)))
packed_leads G f w group x h = (elim (is_packed f group) as (λ b. (is_packed f group ≡ b) → Leads G f w (cond b x (want.Give (reply.No refusal.NoStorage)))) [ true ↦ λ e. h e | false ↦ λ e. tt ]) refl

want_leads : (G : Serials) (f : Frame) (w : WaitingCall) (free : Option ℕ) (x : Want) → CallFact f.config G w → script_of f.config w free w.answers ≡ x → Leads G f w (where_packed (is_packed f) x)
want_leads G f w free (want.Look file what) h e = packed_leads G f w file.group (want.Look file what) (λ p. tt)
want_leads G f w free (want.Open file m) h e = packed_leads G f w file.group (want.Open file m) (λ p. (p, λ other k. subst OpensToWrite e (named_alike f.config.mounts other free w.words w.begins w.answers k)))
want_leads G f w free (want.OpenToMend file) h e = packed_leads G f w file.group (want.OpenToMend file) (λ p. p)
want_leads G f w free (want.Make group kind sites) h e = packed_leads G f w group (want.Make group kind sites) (λ p. p)
want_leads G f w free (want.Do i o) h e = λ c. change_leads G f w free i o h e c
want_leads G f w free (want.Close i) h e = tt
want_leads G f w free (want.Give r) h e = reply_leads G f w free r h e
want_leads G f w free want.Never h e = tt

pub leads : (G : Serials) (f : Frame) (w : WaitingCall) (u : Users) → CallFact f.config G w → Leads G f w (next_want f w u)
leads G f w u h = want_leads G f w (lowest_free (descriptors_of u w.process)) _ h refl
