-- A line is of one role: what using sites tell, storage sites, synchronization sites, and what tells of a site itself.
use Rattle.std.proofs.Common.{◌≡◌, ℕ, List, ◌∷◌, sym, ◌∙◌, inr}
use Rattle.locus_ids.specs.declared.ids.EpochId.{EpochId}
use Rattle.trace_book.specs.declared.record.Record.{Record}
use Rattle.trace_book.specs.declared.record.Record.TheVariants as says
use Rattle.role_steps.specs.Views.{Frame, Told, Shown, Promises, Takes, LooksAgain, Begins, Shuts, Reserves}
use Rattle.the_run.specs.Worlds.{Line}
use Rattle.tree_laws.specs.Doing.{IsUsersRecord, IsOfUsers, IsStoreRecord, IsOfStore, IsAdoptedRecord, IsAdopted, IsTableRecord, IsOfTable, IsSiteRecord, IsOfSite, IsPromise}

-- ---- using sites ----

users_store_record : (me s : ℕ) (t : List Line) (e : EpochId) (r : Record) → IsUsersRecord me r → IsStoreRecord t s e r → ⊥
users_store_record me s t e (says.Accept site process call words) h k = k
users_store_record me s t e (says.Answer site process call reply) h k = k
users_store_record me s t e _ h k = absurd h

pub users_store : (me s : ℕ) (t : List Line) (e : EpochId) (x : Told) → IsOfUsers me x → IsOfStore t s e x → ⊥
users_store me s t e (Shown r) h k = users_store_record me s t e r h k
users_store me s t e (Takes site call request times a) h k = k
users_store me s t e (LooksAgain site call request times) h k = k
users_store me s t e _ h k = absurd h

users_table_record : (me : ℕ) (f : Frame) (group : ℕ) (r : Record) → IsUsersRecord me r → IsTableRecord f group r → ⊥
users_table_record me f group (says.Accept site process call words) h k = k
users_table_record me f group (says.Answer site process call reply) h k = k
users_table_record me f group _ h k = absurd h

pub users_table : (me : ℕ) (f : Frame) (group : ℕ) (x : Told) → IsOfUsers me x → IsOfTable f group x → ⊥
users_table me f group (Shown r) h k = users_table_record me f group r h k
users_table me f group (Takes site call request times a) h k = k
users_table me f group (LooksAgain site call request times) h k = k
users_table me f group _ h k = absurd h

users_site_record : (me s : ℕ) (r : Record) → IsUsersRecord me r → IsSiteRecord s r → ⊥
users_site_record me s (says.Accept site process call words) h k = k
users_site_record me s (says.Answer site process call reply) h k = k
users_site_record me s _ h k = absurd h

pub users_site : (me s : ℕ) (x : Told) → IsOfUsers me x → IsOfSite s x → ⊥
users_site me s (Shown r) h k = users_site_record me s r h k
users_site me s (Takes site call request times a) h k = k
users_site me s (LooksAgain site call request times) h k = k
users_site me s _ h k = absurd h

-- ---- sites themselves ----

site_store_record : (me s : ℕ) (t : List Line) (e : EpochId) (r : Record) → IsSiteRecord me r → IsStoreRecord t s e r → ⊥
site_store_record me s t e (says.Up site boot) h k = k
site_store_record me s t e (says.Stopped site cause) h k = k
site_store_record me s t e (says.Leave site epoch) h k = k
site_store_record me s t e (says.Join site epoch members) h k = k
site_store_record me s t e _ h k = absurd h

pub site_store : (me s : ℕ) (t : List Line) (e : EpochId) (x : Told) → IsOfSite me x → IsOfStore t s e x → ⊥
site_store me s t e (Shown r) h k = site_store_record me s t e r h k
site_store me s t e _ h k = absurd h

site_table_record : (me : ℕ) (f : Frame) (group : ℕ) (r : Record) → IsSiteRecord me r → IsTableRecord f group r → ⊥
site_table_record me f group (says.Up site boot) h k = k
site_table_record me f group (says.Stopped site cause) h k = k
site_table_record me f group (says.Leave site epoch) h k = k
site_table_record me f group (says.Join site epoch members) h k = k
site_table_record me f group _ h k = absurd h

pub site_table : (me : ℕ) (f : Frame) (group : ℕ) (x : Told) → IsOfSite me x → IsOfTable f group x → ⊥
site_table me f group (Shown r) h k = site_table_record me f group r h k
site_table me f group _ h k = absurd h

-- ---- storage sites ----

store_table_record : (me : ℕ) (t : List Line) (e : EpochId) (f : Frame) (group : ℕ) (r : Record) → IsStoreRecord t me e r → IsTableRecord f group r → ⊥
store_table_record me t e f group (says.Act at inst number o result) h k = k
store_table_record me t e f group (says.Commit file site stamp parents content) h k = k
store_table_record me t e f group _ h k = absurd h

pub store_table : (me : ℕ) (t : List Line) (e : EpochId) (f : Frame) (group : ℕ) (x : Told) → IsOfStore t me e x → IsOfTable f group x → ⊥
store_table me t e f group (Shown r) h k = store_table_record me t e f group r h k
store_table me t e f group (Begins site at inst file) h k = k
store_table me t e f group (Shuts site at inst) h k = k
store_table me t e f group (Reserves site at inst file) h k = k
store_table me t e f group _ h k = absurd h

pub store_users : (me s : ℕ) (t : List Line) (e : EpochId) (x : Told) → IsOfStore t me e x → IsOfUsers s x → ⊥
store_users me s t e x h k = users_store s me t e x k h

store_site_record : (me s : ℕ) (t : List Line) (e : EpochId) (r : Record) → IsStoreRecord t me e r → IsSiteRecord s r → ⊥
store_site_record me s t e (says.Act at inst number o result) h k = k
store_site_record me s t e (says.Commit file site stamp parents content) h k = k
store_site_record me s t e _ h k = absurd h

pub store_site : (me s : ℕ) (t : List Line) (e : EpochId) (x : Told) → IsOfStore t me e x → IsOfSite s x → ⊥
store_site me s t e (Shown r) h k = store_site_record me s t e r h k
store_site me s t e (Begins site at inst file) h k = k
store_site me s t e (Shuts site at inst) h k = k
store_site me s t e (Reserves site at inst file) h k = k
store_site me s t e _ h k = absurd h

-- what a store tells before an event it tells after it
store_later_record : (me : ℕ) (y : Line) (t : List Line) (e : EpochId) (r : Record) → IsStoreRecord t me e r → IsStoreRecord (y ∷ t) me e r
store_later_record me y t e (says.Act at inst number o result) h = (h.0, (h.1.0, inr h.1.1))
store_later_record me y t e (says.Commit file site stamp parents content) h = h
store_later_record me y t e _ h = absurd h

pub store_later : (me : ℕ) (y : Line) (t : List Line) (e : EpochId) (x : Told) → IsOfStore t me e x → IsOfStore (y ∷ t) me e x
store_later me y t e (Shown r) h = store_later_record me y t e r h
store_later me y t e (Begins site at inst file) h = h
store_later me y t e (Shuts site at inst) h = h
store_later me y t e (Reserves site at inst file) h = h
store_later me y t e _ h = absurd h

-- ---- synchronization sites ----

pub table_users : (me : ℕ) (f : Frame) (group : ℕ) (x : Told) → IsOfTable f group x → IsOfUsers me x → ⊥
table_users me f group x h k = users_table me f group x k h

pub table_site : (s : ℕ) (f : Frame) (group : ℕ) (x : Told) → IsOfTable f group x → IsOfSite s x → ⊥
table_site s f group x h k = site_table s f group x k h

pub table_store : (s : ℕ) (t : List Line) (e : EpochId) (f : Frame) (group : ℕ) (x : Told) → IsOfTable f group x → IsOfStore t s e x → ⊥
table_store s t e f group x h k = store_table s t e f group x k h

-- ---- adoptions ----

adopted_store_record : (me s : ℕ) (t : List Line) (e : EpochId) (r : Record) → IsAdoptedRecord me r → IsStoreRecord t s e r → ⊥
adopted_store_record me s t e (says.Adopt file site stamp) h k = k
adopted_store_record me s t e _ h k = absurd h

pub adopted_store : (me s : ℕ) (t : List Line) (e : EpochId) (x : Told) → IsAdopted me x → IsOfStore t s e x → ⊥
adopted_store me s t e (Shown r) h k = adopted_store_record me s t e r h k
adopted_store me s t e _ h k = absurd h

adopted_users_record : (me s : ℕ) (r : Record) → IsAdoptedRecord me r → IsUsersRecord s r → ⊥
adopted_users_record me s (says.Adopt file site stamp) h k = k
adopted_users_record me s _ h k = absurd h

pub adopted_users : (me s : ℕ) (x : Told) → IsAdopted me x → IsOfUsers s x → ⊥
adopted_users me s (Shown r) h k = adopted_users_record me s r h k
adopted_users me s _ h k = absurd h

adopted_site_record : (me s : ℕ) (r : Record) → IsAdoptedRecord me r → IsSiteRecord s r → ⊥
adopted_site_record me s (says.Adopt file site stamp) h k = k
adopted_site_record me s _ h k = absurd h

pub adopted_site : (me s : ℕ) (x : Told) → IsAdopted me x → IsOfSite s x → ⊥
adopted_site me s (Shown r) h k = adopted_site_record me s r h k
adopted_site me s _ h k = absurd h

adopted_table_record : (me : ℕ) (f : Frame) (group : ℕ) (r : Record) → IsAdoptedRecord me r → IsTableRecord f group r → ⊥
adopted_table_record me f group (says.Adopt file site stamp) h k = k
adopted_table_record me f group _ h k = absurd h

pub adopted_table : (me : ℕ) (f : Frame) (group : ℕ) (x : Told) → IsAdopted me x → IsOfTable f group x → ⊥
adopted_table me f group (Shown r) h k = adopted_table_record me f group r h k
adopted_table me f group _ h k = absurd h

adopted_one_record : (s t : ℕ) (r : Record) → IsAdoptedRecord s r → IsAdoptedRecord t r → s ≡ t
adopted_one_record s t (says.Adopt file site stamp) h k = sym h ∙ k
adopted_one_record s t _ h k = absurd h

pub adopted_one : (s t : ℕ) (x : Told) → IsAdopted s x → IsAdopted t x → s ≡ t
adopted_one s t (Shown r) h k = adopted_one_record s t r h k
adopted_one s t _ h k = absurd h

-- ---- one table ----

table_epoch_record : (f e : Frame) (g h : ℕ) (r : Record) → IsTableRecord f g r → IsTableRecord e h r → (f.epoch ≡ e.epoch) × (g ≡ h)
table_epoch_record f e g h (says.Start at started copies) k l = (sym k.0 ∙ l.0, sym k.1 ∙ l.1)
table_epoch_record f e g h (says.Look at call request file what result) k l = (sym k.0 ∙ l.0, sym k.1 ∙ l.1)
table_epoch_record f e g h (says.Grant at call request inst mode file stamp ss) k l = (sym k.0 ∙ l.0, sym k.1 ∙ l.1)
table_epoch_record f e g h (says.Refuse at call request inst mode file why) k l = (sym k.0 ∙ l.0, sym k.1 ∙ l.1)
table_epoch_record f e g h (says.Release at inst file stamp) k l = (sym k.0 ∙ l.0, sym k.1 ∙ l.1)
table_epoch_record f e g h _ k l = absurd k

-- a line is of one table
pub one_table : (f e : Frame) (g h : ℕ) (x : Told) → IsOfTable f g x → IsOfTable e h x → (f.epoch ≡ e.epoch) × (g ≡ h)
one_table f e g h (Shown r) k l = table_epoch_record f e g h r k l
one_table f e g h _ k l = absurd k

-- ---- two sites ----

users_one_record : (s t : ℕ) (r : Record) → IsUsersRecord s r → IsUsersRecord t r → s ≡ t
users_one_record s t (says.Accept site process call words) h k = sym h ∙ k
users_one_record s t (says.Answer site process call reply) h k = sym h ∙ k
users_one_record s t _ h k = absurd h

pub users_one : (s t : ℕ) (x : Told) → IsOfUsers s x → IsOfUsers t x → s ≡ t
users_one s t (Shown r) h k = users_one_record s t r h k
users_one s t (Takes site call request times a) h k = sym h ∙ k
users_one s t (LooksAgain site call request times) h k = sym h ∙ k
users_one s t _ h k = absurd h

site_one_record : (s t : ℕ) (r : Record) → IsSiteRecord s r → IsSiteRecord t r → s ≡ t
site_one_record s t (says.Up site boot) h k = sym h ∙ k
site_one_record s t (says.Stopped site cause) h k = sym h ∙ k
site_one_record s t (says.Leave site epoch) h k = sym h ∙ k
site_one_record s t (says.Join site epoch members) h k = sym h ∙ k
site_one_record s t _ h k = absurd h

pub site_one : (s t : ℕ) (x : Told) → IsOfSite s x → IsOfSite t x → s ≡ t
site_one s t (Shown r) h k = site_one_record s t r h k
site_one s t _ h k = absurd h

-- ---- adoptions seen from the others ----

pub users_adopted : (me s : ℕ) (x : Told) → IsOfUsers me x → IsAdopted s x → ⊥
users_adopted me s x h k = adopted_users s me x k h

pub store_adopted : (me s : ℕ) (t : List Line) (e : EpochId) (x : Told) → IsOfStore t me e x → IsAdopted s x → ⊥
store_adopted me s t e x h k = adopted_store s me t e x k h

pub table_adopted : (s : ℕ) (f : Frame) (group : ℕ) (x : Told) → IsOfTable f group x → IsAdopted s x → ⊥
table_adopted s f group x h k = adopted_table s f group x k h

-- ---- promises ----

pub promise_users : (me : ℕ) (x : Told) → IsPromise x → IsOfUsers me x → ⊥
promise_users me (Promises site id reach) h k = k
promise_users me _ h k = absurd h

pub promise_store : (me : ℕ) (t : List Line) (e : EpochId) (x : Told) → IsPromise x → IsOfStore t me e x → ⊥
promise_store me t e (Promises site id reach) h k = k
promise_store me t e _ h k = absurd h

pub promise_table : (f : Frame) (group : ℕ) (x : Told) → IsPromise x → IsOfTable f group x → ⊥
promise_table f group (Promises site id reach) h k = k
promise_table f group _ h k = absurd h

pub promise_site : (me : ℕ) (x : Told) → IsPromise x → IsOfSite me x → ⊥
promise_site me (Promises site id reach) h k = k
promise_site me _ h k = absurd h

pub promise_adopted : (me : ℕ) (x : Told) → IsPromise x → IsAdopted me x → ⊥
promise_adopted me (Promises site id reach) h k = k
promise_adopted me _ h k = absurd h

-- ---- sites themselves, and adoptions ----

site_adopted_record : (me s : ℕ) (r : Record) → IsSiteRecord me r → IsAdoptedRecord s r → ⊥
site_adopted_record me s (says.Adopt file site stamp) h k = h
site_adopted_record me s _ h k = absurd k

pub site_adopted : (me s : ℕ) (x : Told) → IsOfSite me x → IsAdopted s x → ⊥
site_adopted me s (Shown r) h k = site_adopted_record me s r h k
site_adopted me s _ h k = absurd h
