-- What a call asks next is the same by the value and by the folds.
use Rattle.std.proofs.Common.{◌≡◌, ℕ, ◌≤◌, Bool, true, false, cond, ◌&&◌, ◌||◌, List, [], ◌∷◌, length, filter, Option, Some, None, refl, sym, ◌∙◌, ap}
use Rattle.std.specs.Prelude.{nat_lt, take}
use Rattle.std.specs.List.{find, list_any}
use Rattle.std.specs.Option.{option_map, is_some}
use Rattle.locus_ids.specs.declared.ids.CallId.{CallId}
use Rattle.locus_ids.specs.declared.config.Config.{Config}
use Rattle.locus_ids.specs.declared.config.Mount.{Mount}
use Rattle.locus_ids.specs.declared.sites.Members.{Members}
use Rattle.locus_ids.specs.declared.ids.EpochId.{EpochId}
use Rattle.locus_ids.specs.declared.ids.FileId.{FileId}
use Rattle.locus_ids.specs.declared.ids.Kind.{Kind}
use Rattle.locus_ids.specs.declared.ids.Kind.TheVariants.{File, Dir}
use Rattle.locus_ids.specs.declared.refusal.Refusal.TheVariants.{BadName}
use Rattle.trace_book.specs.Same.{same_epoch}
use Rattle.trace_book.specs.Names.{components}
use Rattle.trace_book.specs.declared.call.Call.{Call}
use Rattle.trace_book.specs.declared.call.Call.TheVariants as call
use Rattle.trace_book.specs.declared.call.OpenMode.{OpenMode}
use Rattle.trace_book.specs.declared.descriptor.Beginning.{Beginning}
use Rattle.trace_book.specs.declared.descriptor.Beginning.TheVariants.{Denied, Uses, Walks, Reopens, Frees}
use Rattle.trace_book.specs.declared.reply.Reply.TheVariants as reply
use Rattle.call_rules.specs.declared.answer.Answer.{Answer}
use Rattle.call_rules.specs.declared.answer.Answer.TheVariants as answer
use Rattle.call_rules.specs.declared.want.Want.{Want}
use Rattle.call_rules.specs.declared.want.Want.TheVariants as want
use Rattle.call_rules.specs.Descriptors.{lowest_free}
use Rattle.call_rules.specs.Opening.{opens_file}
use Rattle.call_rules.specs.Scripts.{wants, where_packed, named_wants, begun_wants, path_wants}
use Rattle.call_rules.specs.Walks.{Walked, Asks, Fails, There, Strays, walk, walked, root_of}
use Rattle.call_rules.specs.Words.{is_badly_named}
use Rattle.tree_model.specs.declared.accepted.Waiting.{Waiting}
use Rattle.tree_model.specs.Calls.{call_named}
use Rattle.tree_model.specs.Epochs.{is_in}
use Rattle.tree_model.specs.Folds.{Trace}
use Rattle.tree_model.specs.Packs.{all_sites, is_member, has_pack, sync_site}
use Rattle.promises.specs.of_lawful_trace.Progress.{is_packed_in, wants_as, wants_after}
use Rattle.promises.specs.of_lawful_trace.Tables.{descriptor, begun}
use Rattle.promises.specs.Past.{Past, Epoch, CallSoFar, sync_of, is_packed, asks_after}
use Rattle.promises.specs.After.{is_id, is_epoch}
use Rattle.past_laws.specs.Agreement.{Agrees, waiting_as}
use Rattle.past_laws.specs.Standing.{is_open}
use Rattle.past_laws.proofs.Names.{false_true, epoch_turned}
use Rattle.past_laws.proofs.Changing.{none_after}

-- ---- the groups that members pack ----

-- one passes, or none is found
some_passes : (q : ℕ → Bool) (ns : List ℕ) → nat_lt 0 (length (take 1 (filter q ns))) ≡ is_some (find q ns)
some_passes q [] = refl
some_passes q (n ∷ ns) = over (q n) (some_passes q ns)
  where
    over : (b : Bool) → nat_lt 0 (length (take 1 (filter q ns))) ≡ is_some (find q ns) → nat_lt 0 (length (take 1 (cond b (n ∷ filter q ns) (filter q ns)))) ≡ is_some (cond b (Some n) (find q ns))
    over true later = refl
    over false later = later

-- what stands of the epoch of an id, where it is there
abbrev passes_of : (Epoch → Bool) → Option Epoch → Bool
passes_of h None = false
passes_of h (Some t) = h t

none_of_epoch : (e : EpochId) (h : Epoch → Bool) (us : List Epoch) → list_any (is_epoch e) us ≡ false → list_any (λ (u : Epoch). same_epoch e u.id && h u) us ≡ false
none_of_epoch e h [] k = refl
none_of_epoch e h (u ∷ us) k = at (none_of_epoch e h us) (same_epoch u.id e) refl k
  where
    at : (list_any (is_epoch e) us ≡ false → list_any (λ (v : Epoch). same_epoch e v.id && h v) us ≡ false) → (b : Bool) → same_epoch u.id e ≡ b → (b || list_any (is_epoch e) us) ≡ false → ((same_epoch e u.id && h u) || list_any (λ (v : Epoch). same_epoch e v.id && h v) us) ≡ false
    at later true f g = false_true (sym g)
    at later false f g = rw (epoch_turned e u.id, f) (later g)

any_epoch : (e : EpochId) (h : Epoch → Bool) (ts : List Epoch) → length (filter (is_epoch e) ts) ≤ 1 → list_any (λ (t : Epoch). same_epoch e t.id && h t) ts ≡ passes_of h (find (is_epoch e) ts)
any_epoch e h [] few = refl
any_epoch e h (t ∷ ts) few = over (is_epoch e t) refl (any_epoch e h ts) few
  where
    last : (b : Bool) → (b || false) ≡ b
    last true = refl
    last false = refl

    over : (b : Bool) → is_epoch e t ≡ b → (length (filter (is_epoch e) ts) ≤ 1 → list_any (λ (u : Epoch). same_epoch e u.id && h u) ts ≡ passes_of h (find (is_epoch e) ts)) → length (cond b (t ∷ filter (is_epoch e) ts) (filter (is_epoch e) ts)) ≤ 1
        → ((same_epoch e t.id && h t) || list_any (λ (u : Epoch). same_epoch e u.id && h u) ts) ≡ passes_of h (cond b (Some t) (find (is_epoch e) ts))
    over true f later g = rw (epoch_turned e t.id, f) (ap (λ (v : Bool). h t || v) (none_of_epoch e h ts (none_after (is_epoch e) t ts g)) ∙ last (h t))
    over false f later g = rw (epoch_turned e t.id, f) (later g)

packed_epoch : (c : Config) (group : ℕ) (o : Option Epoch) → passes_of (λ (t : Epoch). nat_lt 0 (length (sync_of c t group))) o ≡ is_some (sync_site c group (option_map (λ (t : Epoch). t.members) o))
packed_epoch c group None = refl
packed_epoch c group (Some t) = some_passes (λ site. is_member t.members site && has_pack c group site) all_sites

none_in : (c : Config) (group : ℕ) (ts : List Epoch) → list_any (λ (t : Epoch). is_in None t.id && nat_lt 0 (length (sync_of c t group))) ts ≡ false
none_in c group [] = refl
none_in c group (t ∷ ts) = none_in c group ts

packed_in : (c : Config) (before : Trace) (p : Past) → Agrees c before p → (o : Option EpochId) (group : ℕ) → list_any (λ (t : Epoch). is_in o t.id && nat_lt 0 (length (sync_of c t group))) p.epochs ≡ is_packed_in c before o group
packed_in c before p a None group = none_in c group p.epochs
packed_in c before p a (Some e) group = any_epoch e (λ (t : Epoch). nat_lt 0 (length (sync_of c t group))) p.epochs (a.epochs.once e)
    ∙ (packed_epoch c group (find (is_epoch e) p.epochs) ∙ ap (λ (m : Option Members). is_some (sync_site c group m)) (a.epochs.members e))

pub packed_same : (c : Config) (before : Trace) (p : Past) → Agrees c before p → (k : CallSoFar) → is_packed c p k ≡ is_packed_in c before k.epoch
packed_same c before p a k = λ i group. packed_in c before p a k.epoch group i

-- ---- what is asked by both ----

pub asks_by : (c : Config) (before : Trace) (p : Past) → Agrees c before p → (k : CallSoFar) (xs : List Answer) → asks_after c p k xs ≡ wants c.mounts (is_packed_in c before k.epoch) k.free k.words k.begins xs
asks_by c before p a k xs = ap (λ (q : ℕ → Bool). wants c.mounts q k.free k.words k.begins xs) (packed_same c before p a k)

pub named_as : (c : Config) (before : Trace) (p : Past) → Agrees c before p → (k : CallSoFar) → find (is_id k.id) p.calls ≡ Some k → call_named before k.id ≡ Some (waiting_as k)
named_as c before p a k found = sym (a.calls.named k.id) ∙ ap (option_map waiting_as) found

pub begun_as : (c : Config) (before : Trace) (p : Past) → Agrees c before p → (k : CallSoFar) → find (is_id k.id) p.calls ≡ Some k → begun before k.id ≡ Some k.begins
begun_as c before p a k found = sym (a.calls.begun k.id) ∙ ap (option_map (λ (x : CallSoFar). x.begins)) found

pub wants_by : (c : Config) (before : Trace) (p : Past) → Agrees c before p → (k : CallSoFar) → find (is_id k.id) p.calls ≡ Some k → (xs : List Answer) → wants_after c before k.id xs ≡ wants c.mounts (is_packed_in c before k.epoch) (lowest_free (descriptor before k.id.site k.process)) k.words k.begins xs
wants_by c before p a k found xs = ap (λ (o : Option Waiting). wants_as c before o (begun before k.id) xs) (named_as c before p a k found) ∙ ap (λ (o : Option Beginning). wants_as c before (Some (waiting_as k)) o xs) (begun_as c before p a k found)

-- ---- the free number ----

abbrev pub is_request : Want → Bool
is_request (want.Give r) = false
is_request want.Never = false
is_request _ = true

-- the two ask the same, or the first asks nothing
abbrev AsksSame : Want → Want → Type 0
AsksSame v w = is_request v ≡ true → w ≡ v

opens_same : (how : OpenMode) (a b : Option ℕ) (file : FileId) (kind : Kind) (xs : List Answer) → AsksSame (opens_file how a file kind xs) (opens_file how b file kind xs)
opens_same how a b file Dir xs r = refl
opens_same how a b file File [] r = refl
opens_same how (Some fd) b file File (answer.Opened i ino ∷ []) r = false_true r
opens_same how None b file File (answer.Opened i ino ∷ []) r = false_true r
opens_same how a b file File (answer.Opened i ino ∷ x ∷ xs) r = false_true r
opens_same how (Some fd) b file File (answer.Reading i version ∷ []) r = false_true r
opens_same how None b file File (answer.Reading i version ∷ []) r = false_true r
opens_same how a b file File (answer.Reading i version ∷ x ∷ xs) r = false_true r
opens_same how a b file File (answer.Refused why ∷ []) r = false_true r
opens_same how a b file File (answer.Refused why ∷ x ∷ xs) r = false_true r
opens_same how a b file File (_ ∷ xs) r = false_true r

walked_same : (mounts : List Mount) (path : List (List ℕ)) (xs : List Answer) (f g : FileId → Kind → List Answer → Want) → ((file : FileId) (kind : Kind) (ys : List Answer) → AsksSame (f file kind ys) (g file kind ys)) → AsksSame (walked mounts path xs f) (walked mounts path xs g)
walked_same mounts path xs f g same = over (walk mounts path [] (root_of 0) Dir xs) refl
  where
    over : (x : Walked) → walk mounts path [] (root_of 0) Dir xs ≡ x → AsksSame (walked mounts path xs f) (walked mounts path xs g)
    over (Asks dir name) e = rw e (λ r. refl)
    over (Fails why) e = rw e (λ r. refl)
    over (There file kind ys) e = rw e (same file kind ys)
    over Strays e = rw e (λ r. refl)

path_same : (mounts : List Mount) (a b : Option ℕ) (id : CallId) (words : Call) (xs : List Answer) → AsksSame (path_wants mounts a id words xs) (path_wants mounts b id words xs)
path_same mounts a b id (call.Open path how) xs = walked_same mounts (components path) xs (opens_file how a) (opens_file how b) (λ file kind ys. opens_same how a b file kind ys)
path_same mounts a b id _ xs = λ r. refl

begun_same : (mounts : List Mount) (a b : Option ℕ) (words : Call) (begins : Beginning) (xs : List Answer) → AsksSame (begun_wants mounts a words begins xs) (begun_wants mounts b words begins xs)
begun_same mounts a b words (Denied why) xs = λ r. refl
begun_same mounts a b words (Uses epoch inst) xs = λ r. refl
begun_same mounts a b words (Walks id) xs = path_same mounts a b id words xs
begun_same mounts a b words (Reopens kept last) xs = λ r. refl
begun_same mounts a b words Frees xs = λ r. refl

named_same : (mounts : List Mount) (a b : Option ℕ) (words : Call) (begins : Beginning) (xs : List Answer) → AsksSame (named_wants mounts a words begins xs) (named_wants mounts b words begins xs)
named_same mounts a b words begins xs = over (is_badly_named mounts words)
  where
    over : (x : Bool) → AsksSame (cond x (want.Give (reply.No BadName)) (begun_wants mounts a words begins xs)) (cond x (want.Give (reply.No BadName)) (begun_wants mounts b words begins xs))
    over true = λ r. refl
    over false = begun_same mounts a b words begins xs

pub packed_request : (q : ℕ → Bool) (v : Want) → is_request (where_packed q v) ≡ true → is_request v ≡ true
packed_request q (want.Give r) h = h
packed_request q want.Never h = h
packed_request q _ h = refl

pub request_same : (mounts : List Mount) (q : ℕ → Bool) (a b : Option ℕ) (words : Call) (begins : Beginning) (xs : List Answer) → AsksSame (wants mounts q a words begins xs) (wants mounts q b words begins xs)
request_same mounts q a b words begins xs r = ap (where_packed q) (named_same mounts a b words begins xs (packed_request q (named_wants mounts a words begins xs) r))

-- no other script asks for it
path_other : (mounts : List Mount) (a b : Option ℕ) (id : CallId) (words : Call) (xs : List Answer) → is_open words ≡ false → path_wants mounts a id words xs ≡ path_wants mounts b id words xs
path_other mounts a b id (call.Open path how) xs h = false_true (sym h)
path_other mounts a b id _ xs h = refl

begun_other : (mounts : List Mount) (a b : Option ℕ) (words : Call) (begins : Beginning) (xs : List Answer) → is_open words ≡ false → begun_wants mounts a words begins xs ≡ begun_wants mounts b words begins xs
begun_other mounts a b words (Denied why) xs h = refl
begun_other mounts a b words (Uses epoch inst) xs h = refl
begun_other mounts a b words (Walks id) xs h = path_other mounts a b id words xs h
begun_other mounts a b words (Reopens kept last) xs h = refl
begun_other mounts a b words Frees xs h = refl

pub other_same : (mounts : List Mount) (q : ℕ → Bool) (a b : Option ℕ) (words : Call) (begins : Beginning) (xs : List Answer) → is_open words ≡ false → wants mounts q a words begins xs ≡ wants mounts q b words begins xs
other_same mounts q a b words begins xs h = ap (λ (w : Want). where_packed q (cond (is_badly_named mounts words) (want.Give (reply.No BadName)) w)) (begun_other mounts a b words begins xs h)

-- ---- requests and replies ----

-- what a call asks by the folds it asks by the value
pub request_as : (c : Config) (before : Trace) (p : Past) → Agrees c before p → (k : CallSoFar) → find (is_id k.id) p.calls ≡ Some k → (xs : List Answer) (w : Want) → wants_after c before k.id xs ≡ w → is_request w ≡ true → asks_after c p k xs ≡ w
request_as c before p a k found xs w asks r = asks_by c before p a k xs ∙ (request_same c.mounts (is_packed_in c before k.epoch) (lowest_free (descriptor before k.id.site k.process)) k.free k.words k.begins xs (ap is_request by ∙ r) ∙ by)
  where
    by : wants c.mounts (is_packed_in c before k.epoch) (lowest_free (descriptor before k.id.site k.process)) k.words k.begins xs ≡ w
    by = sym (wants_by c before p a k found xs) ∙ asks

-- and while it waits, whatever its script says
pub want_as : (c : Config) (before : Trace) (p : Past) → Agrees c before p → (k : CallSoFar) → find (is_id k.id) p.calls ≡ Some k → k.waits ≡ true → (xs : List Answer) → asks_after c p k xs ≡ wants_after c before k.id xs
want_as c before p a k found waits xs = asks_by c before p a k xs ∙ (over (is_open k.words) refl ∙ sym (wants_by c before p a k found xs))
  where
    over : (b : Bool) → is_open k.words ≡ b → wants c.mounts (is_packed_in c before k.epoch) k.free k.words k.begins xs ≡ wants c.mounts (is_packed_in c before k.epoch) (lowest_free (descriptor before k.id.site k.process)) k.words k.begins xs
    over true e = ap (λ (o : Option ℕ). wants c.mounts (is_packed_in c before k.epoch) o k.words k.begins xs) (a.calls.free k found waits e)
    over false e = other_same c.mounts (is_packed_in c before k.epoch) k.free (lowest_free (descriptor before k.id.site k.process)) k.words k.begins xs e
