-- Messages that were put in and files that were seen: each message was put in once, and what an unlink has seen of its file is all that there is.
use Rattle.std.proofs.Common.{◌≡◌, ℕ, suc, ◌<◌, ◌≤◌, ◌^◌, Bool, true, false, not, ◌&&◌, ◌||◌, cond, List, [], ◌∷◌, ◌++◌, filter, length, append-nil, Some, None, refl, sym, ◌∙◌, ap, subst, ◌⊎◌, inl, inr, arith}
use Rattle.std.proofs.lemmas.Bool.Decides.{nat_tests}
use Rattle.std.specs.List.{list_all, list_any}
use Rattle.plain_facts.proofs.Numbers.{at_most}
use Rattle.plain_facts.proofs.Tests.{and_first, and_second, or_either, or_second, true_false}
use Rattle.locus_ids.specs.declared.config.Config.{Config}
use Rattle.locus_ids.specs.declared.ids.CallId.{CallId}
use Rattle.locus_ids.specs.declared.ids.EpochId.{EpochId}
use Rattle.locus_ids.specs.declared.ids.FileId.{FileId}
use Rattle.locus_ids.specs.declared.ids.Kind.{Kind}
use Rattle.locus_ids.specs.declared.ids.Serial.{Serial}
use Rattle.locus_ids.specs.declared.ids.Stamp.{Stamp}
use Rattle.commit_graph.specs.declared.history.Version.{Version}
use Rattle.commit_graph.specs.Vectors.{vector_of}
use Rattle.commit_graph.specs.Versions.{is_in, is_version, same_file, same_stamp}
use Rattle.trace_book.specs.Messages.{is_message, message_name}
use Rattle.trace_book.specs.declared.call.Call.{Call}
use Rattle.trace_book.specs.declared.call.Call.TheVariants as words
use Rattle.trace_book.specs.declared.descriptor.Beginning.TheVariants as begins
use Rattle.trace_book.specs.declared.operation.Op.TheVariants as op
use Rattle.trace_book.specs.declared.operation.Outcome.{Outcome}
use Rattle.trace_book.specs.declared.operation.What.{What}
use Rattle.trace_book.specs.declared.record.Record.TheVariants as says
use Rattle.version_vector.specs.Counters.{AllLe, joined}
use Rattle.version_vector.proofs.Counting.{AllLe-joined_left, AllLe-same, AllLe-through}
use Rattle.file_effects.specs.Effects.{is_refusal}
use Rattle.call_rules.specs.Scripts.{wants}
use Rattle.call_rules.specs.declared.answer.Answer.{Answer}
use Rattle.call_rules.specs.declared.want.Want.{Want}
use Rattle.call_rules.specs.declared.want.Want.TheVariants as want
use Rattle.role_steps.specs.Views.{Told, Shown}
use Rattle.the_run.specs.Worlds.{Line}
use Rattle.tree_model.specs.declared.accepted.Waiting.{Waiting}
use Rattle.tree_model.specs.Calls.{call_named}
use Rattle.tree_model.specs.Histories.{history}
use Rattle.lawful_trace.specs.Progress.{is_packed_in, outcome_answer}
use Rattle.lawful_trace.specs.Tables.{begun, call_of_act}
use Rattle.lawful_trace.specs.TreeRows.{granted_group}
use Rattle.tree_laws.specs.Calls.{Asks, heard, log, script}
use Rattle.tree_laws.specs.Following.{IsFollowed, MayTell}
use Rattle.tree_laws.specs.Frames.{IsFresh}
use Rattle.tree_laws.specs.Instances.{Stands}
use Rattle.tree_laws.specs.Printed.{entries, onto_entries}
use Rattle.tree_laws.proofs.Awaiting.{by_owner}
use Rattle.tree_laws.proofs.Histories.{stands_more, vector_same}
use Rattle.tree_laws.proofs.Scripts.{begun_stays, named_stays, script_stays}
use Rattle.tree_laws.proofs.Orders.Standing.{same_file_eq, same_stamp_eq}
use Rattle.rest_laws.proofs.of_store_laws.ScriptNaming.{script_by}
use Rattle.rest_laws.proofs.of_store_laws.OneTree.RemovePlaced.{IsPlaced, Placed, Taken, placed_more, taken_so}
use Rattle.mailbox_join.proofs.Naming as naming
use Rattle.headline_laws.specs.Boxes.Boxes.{is_made_once, message_files, put_by}
use Rattle.headline_laws.proofs.Boxes.Mailing.{Once, mail_once}

abbrev With : ℕ → Told → List Line → List Line
With n x older = record { number = n; told = x } ∷ older

abbrev pub At : ℕ → ℕ → FileId
At group ino = record { group = group; ino = ino }

-- ---- lists ----

any_behind : {X : Type 0} (p : X → Bool) (xs ys : List X) → list_any p ys ≡ true → list_any p (xs ++ ys) ≡ true
any_behind p [] ys e = e
any_behind p (x ∷ xs) ys e = or_second (p x) (list_any p (xs ++ ys)) (any_behind p xs ys e)

-- where one is prolonged to what the other is
pub data Fronts (xs ys : List Answer) : Type 0 where
  Same : xs ≡ ys → Fronts xs ys
  Longer : (a : Answer) (rest : List Answer) → ys ≡ xs ++ a ∷ rest → Fronts xs ys
  Shorter : (a : Answer) (rest : List Answer) → xs ≡ ys ++ a ∷ rest → Fronts xs ys

fronts : (xs ys zs ws : List Answer) → xs ++ zs ≡ ys ++ ws → Fronts xs ys
fronts [] [] zs ws e = Same refl
fronts [] (y ∷ ys) zs ws e = Longer y ys refl
fronts (x ∷ xs) [] zs ws e = Shorter x xs refl
fronts (x ∷ xs) (y ∷ ys) zs ws e = over (fronts xs ys zs ws (tails e))
  where
    tails : x ∷ (xs ++ zs) ≡ y ∷ (ys ++ ws) → xs ++ zs ≡ ys ++ ws
    tails q = cc

    heads : x ∷ (xs ++ zs) ≡ y ∷ (ys ++ ws) → x ≡ y
    heads q = cc

    over : Fronts xs ys → Fronts (x ∷ xs) (y ∷ ys)
    over (Same q) = Same (ap (λ (a : Answer). a ∷ xs) (heads e) ∙ ap (λ (l : List Answer). y ∷ l) q)
    over (Longer a rest q) = Longer a rest (ap (λ (b : Answer). b ∷ ys) (sym (heads e)) ∙ ap (λ (l : List Answer). x ∷ l) q)
    over (Shorter a rest q) = Shorter a rest (ap (λ (b : Answer). b ∷ xs) (heads e) ∙ ap (λ (l : List Answer). y ∷ l) q)

-- ---- a message that was put in ----

-- the request is to insert this entry
pub record PutSo (name : List ℕ) (ino : ℕ) (w : Want) (a : Answer) : Type 0 where
  pub inst : Serial
  pub kind : Kind
  pub asked : w ≡ want.Do inst (op.Insert name ino kind)

-- A mail has put a message of this name into a directory of the group under this number: it asked so.
pub record Put (c : Config) (t : List Line) (group : ℕ) (name : List ℕ) (ino : ℕ) : Type 0 where
  pub call : CallId
  pub caller : Waiting
  pub path : List ℕ
  pub bytes : List ℕ
  pub named : call_named (entries t) call ≡ Some caller
  pub mails : caller.words ≡ words.Mail path bytes
  pub walks : begun (entries t) call ≡ Some (begins.Walks call)
  pub placed : Placed c t call (PutSo name ino)
  pub listed : list_any (same_file (At group ino)) (message_files (entries t)) ≡ true

-- the numbers of calls that mail are low
abbrev pub MailsAreLow : List Line → Type 0
MailsAreLow t = (d : CallId) (w : Waiting) (path bytes : List ℕ) → call_named (entries t) d ≡ Some w → w.words ≡ words.Mail path bytes → (d.site < 2 ^ 8) × (d.boot < 2 ^ 32) × (d.n < 2 ^ 32)

-- what the mail asks
script_once : (c : Config) (t : List Line) (d : CallId) (w : Waiting) (path bytes : List ℕ) → call_named (entries t) d ≡ Some w → w.words ≡ words.Mail path bytes → begun (entries t) d ≡ Some (begins.Walks d) → Once (message_name d) (script c (entries t) d None)
script_once c t d w path bytes named mails walks = record {
  named = λ xs i n ino kd e. o.named xs i n ino kd (sym (by xs) ∙ e);
  once = λ xs a ys i j n m ino jno kd ld e q. o.once xs a ys i j n m ino jno kd ld (sym (by xs) ∙ e) (sym (by (xs ++ a ∷ ys)) ∙ q);
}
  where
    o : Once (message_name d) (wants c.mounts (is_packed_in c (entries t) w.epoch) None (words.Mail path bytes) (begins.Walks d))
    o = mail_once c.mounts (is_packed_in c (entries t) w.epoch) None d path bytes

    by : (xs : List Answer) → script c (entries t) d None xs ≡ wants c.mounts (is_packed_in c (entries t) w.epoch) None (words.Mail path bytes) (begins.Walks d) xs
    by xs = script_by c t d w (begins.Walks d) None xs named walks ∙ ap (λ (v : Call). wants c.mounts (is_packed_in c (entries t) w.epoch) None v (begins.Walks d) xs) mails

module _ (c : Config) (t : List Line) (low : MailsAreLow t) where
  own_once : (group : ℕ) (name : List ℕ) (ino : ℕ) (p : Put c t group name ino) → Once (message_name p.call) (script c (entries t) p.call None)
  own_once group name ino p = script_once c t p.call p.caller p.path p.bytes p.named p.mails p.walks

  -- under the name of its call
  pub put_name : (group : ℕ) (name : List ℕ) (ino : ℕ) (p : Put c t group name ino) → name ≡ message_name p.call
  put_name group name ino p = (own_once group name ino p).named p.placed.before p.placed.fits.inst name ino p.placed.fits.kind (p.placed.script_is ∙ p.placed.fits.asked)

  pub one_call : (d e : CallId) (w v : Waiting) (p b q k : List ℕ) → call_named (entries t) d ≡ Some w → w.words ≡ words.Mail p b → call_named (entries t) e ≡ Some v → v.words ≡ words.Mail q k → message_name d ≡ message_name e → d ≡ e
  one_call d e w v p b q k dn dm en em same = naming.once d e dl.0 dl.1 dl.2 el.0 el.1 el.2 same
    where
      dl : (d.site < 2 ^ 8) × (d.boot < 2 ^ 32) × (d.n < 2 ^ 32)
      dl = low d w p b dn dm

      el : (e.site < 2 ^ 8) × (e.boot < 2 ^ 32) × (e.n < 2 ^ 32)
      el = low e v q k en em

  -- the answers that it had taken then are a front of what it has taken now
  front_of : (d : CallId) (Q : Want → Answer → Type 0) (p : Placed c t d Q) → (rest : List Answer) × (log t d ≡ p.before ++ rest)
  front_of d Q p = over p.place
    where
      over : IsPlaced c d p.before p.given t → (rest : List Answer) × (log t d ≡ p.before ++ rest)
      over (inl k) = ([], k.0 ∙ sym (append-nil p.before))
      over (inr k) = (p.given ∷ k.0, k.1)

  insert_number : (i j : Serial) (n m : List ℕ) (a b : ℕ) (k l : Kind) → want.Do i (op.Insert n a k) ≡ want.Do j (op.Insert m b l) → a ≡ b
  insert_number i j n m a b k l e = cc

  -- a message was put in under one number
  pub put_once : (g k : ℕ) (name : List ℕ) (a b : ℕ) → Put c t g name a → Put c t k name b → a ≡ b
  put_once g k name a b p q = over (fronts p.placed.before there.before pf.0 qf.0 (sym pf.1 ∙ qf.1))
    where
      same : q.call ≡ p.call
      same = one_call q.call p.call q.caller p.caller q.path q.bytes p.path p.bytes q.named q.mails p.named p.mails (sym (put_name k name b q) ∙ put_name g name a p)

      there : Placed c t p.call (PutSo name b)
      there = subst (λ (d : CallId). Placed c t d (PutSo name b)) same q.placed

      pf : (rest : List Answer) × (log t p.call ≡ p.placed.before ++ rest)
      pf = front_of p.call (PutSo name a) p.placed

      qf : (rest : List Answer) × (log t p.call ≡ there.before ++ rest)
      qf = front_of p.call (PutSo name b) there

      o : Once (message_name p.call) (script c (entries t) p.call None)
      o = own_once g name a p

      first : script c (entries t) p.call None p.placed.before ≡ want.Do p.placed.fits.inst (op.Insert name a p.placed.fits.kind)
      first = p.placed.script_is ∙ p.placed.fits.asked

      second : script c (entries t) p.call None there.before ≡ want.Do there.fits.inst (op.Insert name b there.fits.kind)
      second = there.script_is ∙ there.fits.asked

      over : Fronts p.placed.before there.before → a ≡ b
      over (Same e) = insert_number p.placed.fits.inst there.fits.inst name name a b p.placed.fits.kind there.fits.kind (sym first ∙ (ap (script c (entries t) p.call None) e ∙ second))
      over (Longer x rest e) = absurd (o.once p.placed.before x rest p.placed.fits.inst there.fits.inst name name a b p.placed.fits.kind there.fits.kind first (ap (script c (entries t) p.call None) (sym e) ∙ second))
      over (Shorter x rest e) = absurd (o.once there.before x rest there.fits.inst p.placed.fits.inst name name b a there.fits.kind p.placed.fits.kind second (ap (script c (entries t) p.call None) (sym e) ∙ first))

  -- what a mail asks to insert was not put in
  pub put_new : (d : CallId) (w : Waiting) (path bytes : List ℕ) → call_named (entries t) d ≡ Some w → w.words ≡ words.Mail path bytes → begun (entries t) d ≡ Some (begins.Walks d) → (i : Serial) (name : List ℕ) (ino : ℕ) (k : Kind) → Asks c t d (want.Do i (op.Insert name ino k)) →
      (g a : ℕ) → Put c t g name a → ⊥
  put_new d w path bytes named mails walks i name ino k asks g a p = o.once taken.before taken.given taken.after taken.fits.inst i name name a ino taken.fits.kind k (taken.script_is ∙ taken.fits.asked) (ap (script c (entries t) d None) (sym taken.log_is) ∙ asks.asked)
    where
      o : Once (message_name d) (script c (entries t) d None)
      o = script_once c t d w path bytes named mails walks

      same : p.call ≡ d
      same = one_call p.call d p.caller w p.path p.bytes path bytes p.named p.mails named mails (sym (put_name g name a p) ∙ o.named (log t d) i name ino k asks.asked)

      taken : Taken c t d (PutSo name a)
      taken = taken_so c t d (PutSo name a) asks.nothing_waits (subst (λ (e : CallId). Placed c t e (PutSo name a)) same p.placed)

-- ---- files that were seen ----

-- The vector covers all versions of the file, and there is one.
pub record Saw (c : Config) (t : List Line) (group ino : ℕ) (seen : List ℕ) : Type 0 where
  pub stamp : Stamp
  pub stands : Stands c t (At group ino) stamp
  pub covers : (s : Stamp) → Stands c t (At group ino) s → AllLe (vector_of (history c (entries t)) (At group ino) s) seen

pub saw_wider : (c : Config) (t : List Line) (group ino : ℕ) (a b : List ℕ) → Saw c t group ino a → Saw c t group ino (joined a b)
saw_wider c t group ino a b k = record { stamp = k.stamp; stands = k.stands; covers = λ s z. AllLe-through (vector_of (history c (entries t)) (At group ino) s) a (joined a b) (k.covers s z) (AllLe-joined_left a b) }

-- no message's file has a commit after its making
abbrev pub MadeOnce : Config → List Line → Type 0
MadeOnce c t = list_all (is_made_once (history c (entries t))) (message_files (entries t)) ≡ true

abbrev many : List Version → FileId → ℕ
many h f = length (filter (λ (v : Version). same_file v.file f) h)

passes_all : (p q : FileId → Bool) (fs : List FileId) → ((f : FileId) → q f ≡ true → (x : FileId) → p f ≡ true → f ≡ x → p x ≡ true) → list_all p fs ≡ true → (x : FileId) → ((f : FileId) → q f ≡ true → f ≡ x) → list_any q fs ≡ true → p x ≡ true
passes_all p q [] all h x is e = absurd (true_false (sym e))
passes_all p q (f ∷ fs) all h x is e = over (or_either (q f) (list_any q fs) e) (passes_all p q fs all (and_second (p f) (list_all p fs) h) x is)
  where
    over : (q f ≡ true) ⊎ (list_any q fs ≡ true) → (list_any q fs ≡ true → p x ≡ true) → p x ≡ true
    over (inl k) later = all f k x (and_first (p f) (list_all p fs) h) (is f k)
    over (inr k) later = later k

-- so a message's file has at most one version
pub few_versions : (c : Config) (t : List Line) → MadeOnce c t → (group ino : ℕ) → list_any (same_file (At group ino)) (message_files (entries t)) ≡ true → many (history c (entries t)) (At group ino) ≤ 1
few_versions c t once group ino listed = at_most (many (history c (entries t)) (At group ino)) 1
    (passes_all (is_made_once (history c (entries t))) (same_file (At group ino)) (message_files (entries t)) (λ f q x k e. subst (λ (y : FileId). is_made_once (history c (entries t)) y ≡ true) e k) once (At group ino) (λ f q. sym (same_file_eq (At group ino) f q)) listed)

some_version : (h : List Version) (f : FileId) (s : Stamp) → is_in h f s ≡ true → 1 ≤ many h f
some_version [] f s e = absurd (true_false (sym e))
some_version (v ∷ h) f s e = over (same_file v.file f) refl (or_either (is_version f s v) (is_in h f s) e) (some_version h f s)
  where
    over : (b : Bool) → same_file v.file f ≡ b → (is_version f s v ≡ true) ⊎ (is_in h f s ≡ true) → (is_in h f s ≡ true → 1 ≤ many h f) → 1 ≤ length (cond b (v ∷ filter (λ (w : Version). same_file w.file f) h) (filter (λ (w : Version). same_file w.file f) h))
    over true q k later = omega arith
    over false q (inl k) later = absurd (true_false (sym (and_first (same_file v.file f) (same_stamp v.stamp s) k) ∙ q))
    over false q (inr k) later = later k

-- a file with one version has one stamp
one_stamp : (h : List Version) (f : FileId) (s z : Stamp) → many h f ≤ 1 → is_in h f s ≡ true → is_in h f z ≡ true → s ≡ z
one_stamp [] f s z few a b = absurd (true_false (sym a))
one_stamp (v ∷ h) f s z few a b = over (same_file v.file f) refl few (or_either (is_version f s v) (is_in h f s) a) (or_either (is_version f z v) (is_in h f z) b) (one_stamp h f s z)
  where
    none_more : (m : ℕ) → suc m ≤ 1 → 1 ≤ m → ⊥
    none_more m a b = omega arith

    over : (b : Bool) → same_file v.file f ≡ b → length (cond b (v ∷ filter (λ (w : Version). same_file w.file f) h) (filter (λ (w : Version). same_file w.file f) h)) ≤ 1 → (is_version f s v ≡ true) ⊎ (is_in h f s ≡ true) → (is_version f z v ≡ true) ⊎ (is_in h f z ≡ true) →
        (many h f ≤ 1 → is_in h f s ≡ true → is_in h f z ≡ true → s ≡ z) → s ≡ z
    over true q few (inl x) (inl y) later = sym (same_stamp_eq v.stamp s (and_second (same_file v.file f) (same_stamp v.stamp s) x)) ∙ same_stamp_eq v.stamp z (and_second (same_file v.file f) (same_stamp v.stamp z) y)
    over true q few (inl x) (inr y) later = absurd (none_more (many h f) few (some_version h f z y))
    over true q few (inr x) y later = absurd (none_more (many h f) few (some_version h f s x))
    over false q few (inl x) y later = absurd (true_false (sym (and_first (same_file v.file f) (same_stamp v.stamp s) x) ∙ q))
    over false q few (inr x) (inl y) later = absurd (true_false (sym (and_first (same_file v.file f) (same_stamp v.stamp z) y) ∙ q))
    over false q few (inr x) (inr y) later = later few x y

-- who sees the one version of a message's file sees all
pub saw_one : (c : Config) (t : List Line) → MadeOnce c t → (group ino : ℕ) → list_any (same_file (At group ino)) (message_files (entries t)) ≡ true → (s : Stamp) → Stands c t (At group ino) s → Saw c t group ino (vector_of (history c (entries t)) (At group ino) s)
saw_one c t once group ino listed s stands = record {
  stamp = s;
  stands = stands;
  covers = λ z k. subst (λ (y : Stamp). AllLe (vector_of (history c (entries t)) (At group ino) y) (vector_of (history c (entries t)) (At group ino) s)) (one_stamp (history c (entries t)) (At group ino) s z (few_versions c t once group ino listed) stands k) (AllLe-same (vector_of (history c (entries t)) (At group ino) s));
}

-- ---- one line later ----

module _ (c : Config) (n : ℕ) (x : Told) (older : List Line) (h : IsFollowed c older) (may : MayTell c older x) where
  pub listed_later : (group ino : ℕ) → list_any (same_file (At group ino)) (message_files (entries older)) ≡ true → list_any (same_file (At group ino)) (message_files (onto_entries n x (entries older))) ≡ true
  listed_later group ino k = over x
    where
      over : (y : Told) → list_any (same_file (At group ino)) (message_files (onto_entries n y (entries older))) ≡ true
      over (Shown r) = any_behind (same_file (At group ino)) (put_by r (entries older)) (message_files (entries older)) k
      over _ = k

  pub put_later : (group : ℕ) (name : List ℕ) (ino : ℕ) → Put c older group name ino → Put c (With n x older) group name ino
  put_later group name ino p = record {
    call = p.call;
    caller = p.caller;
    path = p.path;
    bytes = p.bytes;
    named = named_stays c n x older p.call h may (p.caller, p.named) ∙ p.named;
    mails = p.mails;
    walks = begun_stays c n x older p.call h may (p.caller, p.named) ∙ p.walks;
    placed = placed_more c n x older p.call (PutSo name ino) h may p.placed;
    listed = listed_later group ino p.listed;
  }

  module _ (fresh : IsFresh c older x) (once : MadeOnce c (With n x older)) where
    -- no version comes that wasn't seen
    stood : (group ino : ℕ) → list_any (same_file (At group ino)) (message_files (entries older)) ≡ true → (s : Stamp) → Stands c older (At group ino) s → (z : Stamp) → Stands c (With n x older) (At group ino) z → Stands c older (At group ino) z
    stood group ino listed s stands z new = subst (λ (y : Stamp). Stands c older (At group ino) y) (one_stamp (history c (entries (With n x older))) (At group ino) s z (few_versions c (With n x older) once group ino (listed_later group ino listed)) (stands_more c n x older (At group ino) s stands) new) stands

    pub saw_later : (group ino : ℕ) (seen : List ℕ) → list_any (same_file (At group ino)) (message_files (entries older)) ≡ true → Saw c older group ino seen → Saw c (With n x older) group ino seen
    saw_later group ino seen listed k = record {
      stamp = k.stamp;
      stands = stands_more c n x older (At group ino) k.stamp k.stands;
      covers = λ s new. subst (λ (v : List ℕ). AllLe v seen) (sym (vector_same c n x older (At group ino) s fresh (stood group ino listed k.stamp k.stands s new))) (k.covers s (stood group ino listed k.stamp k.stands s new));
    }

-- what is inserted now is put in
module _ (c : Config) (n : ℕ) (older : List Line) (h : IsFollowed c older) (e : EpochId) (i : Serial) (number : ℕ) (name : List ℕ) (ino : ℕ) (kind : Kind) (result : Outcome) (may : MayTell c older (Shown (says.Act e i number (op.Insert name ino kind) result))) where
  abbrev it : Told
  it = Shown (says.Act e i number (op.Insert name ino kind) result)

  abbrev d : CallId
  d = may.in_time.call

  no_look : (f : FileId) (w : What) → want.Do i (op.Insert name ino kind) ≡ want.Look f w → ⊥
  no_look f w q = cc

  own_file : (f : FileId) → same_file f f ≡ true
  own_file f = grind (arith, nat_tests)

  pub put_now : (w : Waiting) (path bytes : List ℕ) → call_named (entries older) d ≡ Some w → w.words ≡ words.Mail path bytes → begun (entries older) d ≡ Some (begins.Walks d) → is_message name ≡ true → is_refusal result ≡ false → (group : ℕ) → granted_group (entries older) e i ≡ group →
      Put c (With n it older) group name ino
  put_now w path bytes named mails walks message done group is = record {
    call = d;
    caller = w;
    path = path;
    bytes = bytes;
    named = named_stays c n it older d h may (w, named) ∙ named;
    mails = mails;
    walks = begun_stays c n it older d h may (w, named) ∙ walks;
    placed = record {
      before = log older d;
      given = outcome_answer result;
      asked = want.Do i (op.Insert name ino kind);
      script_is = script_stays c n it older d None (log older d) h may (w, named) ∙ may.in_time.asks.asked;
      request = refl;
      no_look = no_look;
      fits = record { inst = i; kind = kind; asked = refl };
      place = inl (refl, by_owner (call_of_act (entries older) e i number) d _ (heard c older d) may.in_time.owner ∙ ap (λ (xs : List Answer). xs ++ outcome_answer result ∷ []) may.in_time.asks.nothing_waits);
    };
    listed = over (is_message name && not (is_refusal result)) (both (is_message name) (is_refusal result) message done);
  }
    where
      both : (a b : Bool) → a ≡ true → b ≡ false → (a && not b) ≡ true
      both true false p q = refl
      both true true p q = absurd (true_false q)
      both false b p q = p

      over : (b : Bool) → b ≡ true → list_any (same_file (At group ino)) (cond b (record { group = granted_group (entries older) e i; ino = ino } ∷ []) [] ++ message_files (entries older)) ≡ true
      over true q = ap (λ (g : ℕ). same_file (At group ino) (At g ino) || list_any (same_file (At group ino)) (message_files (entries older))) is ∙ ap (λ (b : Bool). b || list_any (same_file (At group ino)) (message_files (entries older))) (own_file (At group ino))
      over false q = absurd (true_false (sym q))
