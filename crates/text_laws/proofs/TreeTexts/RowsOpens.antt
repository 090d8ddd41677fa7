-- Records of opens, granted and refused, are texts.
use Rattle.std.proofs.Common.{◌≡◌, ◌≤◌, ◌<◌, ℕ, zero, suc, ◌+◌, ◌*◌, ◌-◌, ◌==◌, ◌&&◌, ◌||◌, not, Bool, true, false, cond, List, [], ◌∷◌, filter, length, map, Option, Some, None, refl, sym, subst, arith}
use Rattle.std.proofs.lemmas.Bool.Decides.{nat_tests}
use Rattle.std.specs.List.{list_all, list_any, AllByRecursion}
use Rattle.std.specs.Option.{is_none, option_or}
use Rattle.std.specs.Prelude.{nat_lt}
use Rattle.locus_ids.specs.Sizes.{inodes_max, site_inodes, sites_max}
use Rattle.locus_ids.specs.declared.config.Config.{Config}
use Rattle.locus_ids.specs.declared.ids.CallId.{CallId}
use Rattle.locus_ids.specs.declared.ids.EpochId.{EpochId}
use Rattle.locus_ids.specs.declared.ids.FileId.{FileId}
use Rattle.locus_ids.specs.declared.ids.Mode.{Mode}
use Rattle.locus_ids.specs.declared.ids.Mode.TheVariants as mode
use Rattle.locus_ids.specs.declared.ids.Serial.{Serial}
use Rattle.locus_ids.specs.declared.ids.Stamp.{Stamp}
use Rattle.locus_ids.specs.declared.refusal.Refusal.{Refusal}
use Rattle.locus_ids.specs.declared.refusal.Refusal.TheVariants as refusal
use Rattle.commit_graph.specs.Grants.{Opener, excludes, grant_refusal, kept_refusal}
use Rattle.commit_graph.specs.Vectors.{numbers_from}
use Rattle.commit_graph.specs.Versions.{same_file, same_stamp}
use Rattle.trace_book.specs.declared.call.OpenMode.TheVariants as how
use Rattle.trace_book.specs.declared.record.Record.TheVariants as rec
use Rattle.schedule_lines.specs.Ranges.{is_between}
use Rattle.call_rules.specs.declared.want.Want.{Want}
use Rattle.call_rules.specs.declared.want.Want.TheVariants as want
use Rattle.text_laws.specs.CallTexts.Wants.{is_mount, is_want}
use Rattle.tree_model.specs.Opening.{range_of}
use Rattle.tree_model.specs.Packs.{is_within, packs_of}
use Rattle.tree_model.specs.Same.{same_refusal}
use Rattle.tree_model.specs.State.{is_make}
use Rattle.tree_model.specs.Working.{list_of}
use Rattle.lawful_trace.specs.TreeRows.{is_open_of}
use Rattle.promises.specs.Past.{Past, Epoch, Instance, CallSoFar, epoch_at, held_in, is_number, kept_in, sync_of, asks}
use Rattle.promises.specs.Rows.{asks_open, is_refused, is_step_of, is_synced, may_grant, may_refuse}
use Rattle.promises.specs.Same.{same_list}
use Rattle.promises.specs.Tree.{has_kept, is_new_at, is_placed, lacks_numbers, open_refusal, opener_of, openers, place_for, place_refusal, resolves_from, set_for}
use Rattle.past_laws.proofs.Alls.{all_first, all_more}
use Rattle.past_laws.proofs.BackSame.{refusal_back}
use Rattle.past_laws.proofs.Names.{both, both_parts, false_true, file_eq, number_eq}
use Rattle.record_reading.specs.Ranges as range
use Rattle.text_laws.proofs.TreeTexts.Asking.{asks_text}
use Rattle.text_laws.proofs.TreeTexts.RowsCalls.{each_true, epoch_text, named_text, step_call}
use Rattle.text_laws.proofs.TreeTexts.Same.{version_same}
use Rattle.text_laws.proofs.TreeTexts.Texts.{CallText, EpochText, InstanceText, PastText, at_epoch, each_any, held_text, kept_text}

-- ---- which file ----

file_same : (g f : FileId) → same_file g f ≡ true → range.is_file g ≡ true → range.is_file f ≡ true
file_same g f e h = subst (λ (x : FileId). range.is_file x ≡ true) (file_eq g f e) h

-- an open that a call asks is of a file; a make asks for a group alone
abbrev opens_file : Mode → FileId → Bool
opens_file mode.Make f = range.is_group f.group
opens_file _ f = range.is_file f

opens_text : (m : Mode) (f : FileId) (w : Want) → is_open_of m f w ≡ true → is_want w ≡ true → opens_file m f ≡ true
opens_text mode.Read f (want.Open g how.Read) h k = file_same g f h k
opens_text mode.Read f (want.Open g how.Steady) h k = file_same g f h k
opens_text mode.Write f (want.Open g how.Write) h k = file_same g f h k
opens_text mode.Resolve f (want.Open g (how.Resolve site)) h k = file_same g f h k
opens_text mode.Mend f (want.OpenToMend g) h k = file_same g f h k
opens_text mode.Make f (want.Make group kind sites) h k = subst (λ (n : ℕ). range.is_group n ≡ true) (number_eq group f.group h) k
opens_text _ f _ h k = false_true h

group_text : (m : Mode) (f : FileId) → opens_file m f ≡ true → range.is_group f.group ≡ true
group_text mode.Make f h = h
group_text mode.Read f h = (both_parts (range.is_group f.group) (range.is_inode f.ino) h).0
group_text mode.Write f h = (both_parts (range.is_group f.group) (range.is_inode f.ino) h).0
group_text mode.Resolve f h = (both_parts (range.is_group f.group) (range.is_inode f.ino) h).0
group_text mode.Mend f h = (both_parts (range.is_group f.group) (range.is_inode f.ino) h).0

-- ---- grants ----

-- a number among so many from one on
between : (first n x : ℕ) → is_number (numbers_from first n) x ≡ true → (first ≤ x) × (x < first + n)
between first zero x h = false_true h
between first (suc n) x h = over (first == x) refl (between (first + 1) n x) h
  where
    same : (first == x) ≡ true → (first ≤ x) × (x < first + suc n)
    same e = (let k : first ≡ x = number_eq first x e in (omega (arith, k), omega (arith, k)))

    less : (first + 1 ≤ x) × (x < first + 1 + n) → (first ≤ x) × (x < first + suc n)
    less k = (omega (arith, k.0), omega (arith, k.1))

    over : (b : Bool) → (first == x) ≡ b → (is_number (numbers_from (first + 1) n) x ≡ true → (first + 1 ≤ x) × (x < first + 1 + n)) → (b || is_number (numbers_from (first + 1) n) x) ≡ true → (first ≤ x) × (x < first + suc n)
    over true e later g = same e
    over false e later g = less (later g)

-- the numbers of a site's files are inodes
range_text : (site ino : ℕ) → range.is_any_site site ≡ true → is_number (range_of site) ino ≡ true → range.is_inode ino ≡ true
range_text site ino s h = inode (between (site_inodes * (site - 1) + 1) site_inodes ino h) (low s)
  where
    low : range.is_any_site site ≡ true → site ≤ sites_max
    low k = grind (arith, nat_tests)

    test : (n : ℕ) → 1 ≤ n → n ≤ inodes_max → range.is_inode n ≡ true
    test n a b = grind (arith, nat_tests)

    inode : (site_inodes * (site - 1) + 1 ≤ ino) × (ino < site_inodes * (site - 1) + 1 + site_inodes) → site ≤ sites_max → range.is_inode ino ≡ true
    inode k le = test ino (omega (arith, k.0)) (omega (arith, k.1, le))

number_there : (ns : List ℕ) (n : ℕ) → list_all range.is_any_site ns ≡ true → is_number ns n ≡ true → range.is_any_site n ≡ true
number_there ns n h k = each_any (λ (m : ℕ). range.is_any_site m ≡ true) (range.is_any_site n ≡ true) (λ m. m == n) ns (λ m e own. subst (λ (x : ℕ). range.is_any_site x ≡ true) (number_eq m n e) own) (each_true range.is_any_site ns h) k

-- the file and the version of a grant
placed_text : (c : Config) (p : Past) (t : Epoch) (k : CallSoFar) (m : Mode) (f : FileId) (stamp : Option Stamp) (ss : ℕ) → PastText p → EpochText t → range.is_any_site ss ≡ true → opens_file m f ≡ true → is_placed c p t k m f stamp ss ≡ true → (range.is_file f ≡ true) × (range.is_optional_stamp stamp ≡ true)
placed_text c p t k mode.Read f stamp ss h own site file placed = (file, version_same (held_in p t ss f) stamp (both_parts (same_list same_stamp (kept_in p t f) (list_of stamp)) _ placed).1 (held_text p t ss f h own))
placed_text c p t k mode.Write f stamp ss h own site file placed = (file, version_same (held_in p t ss f) stamp (both_parts (same_list same_stamp (kept_in p t f) (list_of stamp)) _ placed).1 (held_text p t ss f h own))
placed_text c p t k mode.Resolve f stamp ss h own site file placed = (file, version_same (held_in p t ss f) stamp (both_parts (is_number (resolves_from k.words) ss) _ placed).1 (held_text p t ss f h own))
placed_text c p t k mode.Mend f stamp ss h own site file placed = (file, version_same (held_in p t ss f) stamp (both_parts (is_number (sync_of c t f.group) ss) _ placed).1 (held_text p t ss f h own))
placed_text c p t k mode.Make f stamp ss h own site file placed =
    let a = both_parts (is_number (place_for c t f.group k) ss) _ placed in
    let b = both_parts (is_new_at p t f ss) (is_none stamp) a.1 in
    (both (range.is_group f.group) (range.is_inode f.ino) file (range_text ss f.ino site (both_parts (is_number (range_of ss) f.ino) _ b.0).0), none stamp b.1)
  where
    none : (o : Option Stamp) → is_none o ≡ true → range.is_optional_stamp o ≡ true
    none None e = refl
    none (Some s) e = false_true e

grant_in : (c : Config) (p : Past) (t : Epoch) (e : EpochId) (id : CallId) (request : ℕ) (i : Serial) (m : Mode) (f : FileId) (stamp : Option Stamp) (ss : ℕ) → list_all is_mount c.mounts ≡ true → PastText p → (range.is_request request && range.is_instance i) ≡ true → t.id ≡ e → EpochText t → may_grant c p t id request i m f stamp ss ≡ true → range.is_record (rec.Grant e id request i m f stamp ss) ≡ true
grant_in c p t e id request i m f stamp ss mounts h new is own may =
    let a = both_parts (is_number t.started f.group) _ may in
    let b = both_parts (is_synced c t f.group) _ a.1 in
    let d = both_parts (is_number t.joined ss) _ b.1 in
    let g = both_parts (i.us == id.site) _ d.1 in
    let j = both_parts _ (is_step_of p t id asked) g.1 in
    step_call asked (range.is_record (rec.Grant e id request i m f stamp ss) ≡ true) p t id h (of (number_there t.joined ss own.joined d.0)) j.1
  where
    asked : CallSoFar → Bool
    asked k = asks_open c p request m f k && (is_none (open_refusal c p t k m f) && is_placed c p t k m f stamp ss)

    of : range.is_any_site ss ≡ true → (k : CallSoFar) → k.id ≡ id → CallText k → asked k ≡ true → range.is_record (rec.Grant e id request i m f stamp ss) ≡ true
    of site k named call so =
        let a = both_parts (asks_open c p request m f k) _ so in
        let file : opens_file m f ≡ true = opens_text m f (asks c p k) (both_parts _ (is_open_of m f (asks c p k)) a.0).1 (asks_text c p k mounts call) in
        let parts = placed_text c p t k m f stamp ss h own site file (both_parts (is_none (open_refusal c p t k m f)) _ a.1).1 in
        let news = both_parts (range.is_request request) (range.is_instance i) new in
        both (range.is_epoch e) _ (epoch_text t e is own) (both (range.is_call_id id) _ (named_text k id named call) (both (range.is_request request) _ news.0 (both (range.is_instance i) _ news.1 (both (range.is_file f) _ parts.0 (both (range.is_optional_stamp stamp) (range.is_any_site ss) parts.1 site)))))

pub grant_row : (c : Config) (p : Past) (e : EpochId) (id : CallId) (request : ℕ) (i : Serial) (m : Mode) (f : FileId) (stamp : Option Stamp) (ss : ℕ) → list_all is_mount c.mounts ≡ true → PastText p → (range.is_request request && range.is_instance i) ≡ true → may_grant c p (epoch_at p e) id request i m f stamp ss ≡ true → range.is_record (rec.Grant e id request i m f stamp ss) ≡ true
grant_row c p e id request i m f stamp ss mounts h new = at_epoch (λ t. may_grant c p t id request i m f stamp ss ≡ true → range.is_record (rec.Grant e id request i m f stamp ss) ≡ true) p e h
    (λ may. false_true may)
    (λ t is own may. grant_in c p t e id request i m f stamp ss mounts h new is own may)

-- ---- refusals ----

abbrev is_optional_refusal : Option Refusal → Bool
is_optional_refusal None = true
is_optional_refusal (Some why) = range.is_refusal why

abbrev is_opener : Opener → Bool
is_opener o = range.is_any_site o.site && range.is_process o.process

openers_text : (f : FileId) (xs : List Instance) → AllByRecursion InstanceText xs → list_all is_opener (map opener_of (filter (λ (x : Instance). same_file x.grant.file f) xs)) ≡ true
openers_text f [] h = refl
openers_text f (x ∷ xs) h = over (same_file x.grant.file f) (openers_text f xs h.1)
  where
    own : is_opener (opener_of x) ≡ true
    own = both (range.is_any_site x.grant.call.site) (range.is_process x.grant.process) (both_parts (range.is_any_site x.grant.call.site) _ h.0.call).0 h.0.process

    over : (b : Bool) → list_all is_opener (map opener_of (filter (λ (y : Instance). same_file y.grant.file f) xs)) ≡ true → list_all is_opener (map opener_of (cond b (x ∷ filter (λ (y : Instance). same_file y.grant.file f) xs) (filter (λ (y : Instance). same_file y.grant.file f) xs))) ≡ true
    over true later = all_more is_opener (opener_of x) (map opener_of (filter (λ (y : Instance). same_file y.grant.file f) xs)) own later
    over false later = later

two_text : (ss : List Stamp) → list_all range.is_stamp ss ≡ true → (m : Mode) → is_optional_refusal (kept_refusal m ss) ≡ true
two_text [] h mode.Read = refl
two_text [] h mode.Write = refl
two_text [] h mode.Resolve = refl
two_text [] h mode.Mend = refl
two_text [] h mode.Make = refl
two_text (a ∷ []) h mode.Read = refl
two_text (a ∷ []) h mode.Write = refl
two_text (a ∷ []) h mode.Resolve = refl
two_text (a ∷ []) h mode.Mend = refl
two_text (a ∷ []) h mode.Make = refl
two_text (a ∷ b ∷ ss) h mode.Read = let parts = all_first range.is_stamp a (b ∷ ss) h in both (range.is_stamp a) (range.is_stamp b) parts.0 (all_first range.is_stamp b ss parts.1).0
two_text (a ∷ b ∷ ss) h mode.Write = let parts = all_first range.is_stamp a (b ∷ ss) h in both (range.is_stamp a) (range.is_stamp b) parts.0 (all_first range.is_stamp b ss parts.1).0
two_text (a ∷ b ∷ ss) h mode.Resolve = refl
two_text (a ∷ b ∷ ss) h mode.Mend = refl
two_text (a ∷ b ∷ ss) h mode.Make = refl

excluder_text : (m : Mode) (os : List Opener) (ss : List Stamp) → list_all is_opener os ≡ true → is_optional_refusal (kept_refusal m ss) ≡ true → is_optional_refusal (grant_refusal m os ss) ≡ true
excluder_text m [] ss h k = k
excluder_text m (o ∷ os) ss h k = let parts = all_first is_opener o os h in over (excludes m o) refl parts.0 (excluder_text m os ss parts.1 k)
  where
    over : (b : Bool) → excludes m o ≡ b → is_opener o ≡ true → is_optional_refusal (grant_refusal m os ss) ≡ true → is_optional_refusal (grant_refusal m (o ∷ os) ss) ≡ true
    over true e own later = rw e own
    over false e own later = rw e later

first_text : (a b : Option Refusal) → is_optional_refusal a ≡ true → is_optional_refusal b ≡ true → is_optional_refusal (option_or a b) ≡ true
first_text None b h k = k
first_text (Some why) b h k = h

place_text : (c : Config) (p : Past) (t : Epoch) (k : CallSoFar) (m : Mode) (f : FileId) → is_optional_refusal (place_refusal c p t k m f) ≡ true
place_text c p t k mode.Read f = refl
place_text c p t k mode.Write f = refl
place_text c p t k mode.Mend f = refl
place_text c p t k mode.Resolve f = over (list_any (has_kept p t f) (resolves_from k.words))
  where
    over : (b : Bool) → is_optional_refusal (cond b None (Some refusal.NoStorage)) ≡ true
    over true = refl
    over false = refl
place_text c p t k mode.Make f = over (is_within (set_for c f.group k) (packs_of c f.group) && nat_lt 0 (length (place_for c t f.group k)))
  where
    over : (b : Bool) → is_optional_refusal (cond b None (Some refusal.NoStorage)) ≡ true
    over true = refl
    over false = refl

open_refusal_text : (c : Config) (p : Past) (t : Epoch) (k : CallSoFar) (m : Mode) (f : FileId) → EpochText t → is_optional_refusal (open_refusal c p t k m f) ≡ true
open_refusal_text c p t k mode.Make f own = place_text c p t k mode.Make f
open_refusal_text c p t k m f own = first_text (grant_refusal m (openers t f) (kept_in p t f)) (place_refusal c p t k m f)
    (excluder_text m (openers t f) (kept_in p t f) (openers_text f t.opened own.opened) (two_text (kept_in p t f) (kept_text p t f own) m))
    (place_text c p t k m f)

refused_text : (c : Config) (p : Past) (t : Epoch) (k : CallSoFar) (m : Mode) (f : FileId) (why : Refusal) → EpochText t → is_refused c p t m f why k ≡ true → range.is_refusal why ≡ true
refused_text c p t k m f why own = over (open_refusal c p t k m f) refl (open_refusal_text c p t k m f own)
  where
    numbers : (w : Refusal) → same_refusal w refusal.NoInode ≡ true → range.is_refusal w ≡ true
    numbers w e = subst (λ (x : Refusal). range.is_refusal x ≡ true) (sym (refusal_back w refusal.NoInode e)) refl

    over : (o : Option Refusal) → open_refusal c p t k m f ≡ o → is_optional_refusal o ≡ true → is_refused c p t m f why k ≡ true → range.is_refusal why ≡ true
    over None e h g = numbers why (both_parts (same_refusal why refusal.NoInode) (list_any (lacks_numbers c p t f.group) (place_for c t f.group k)) (both_parts (is_make m) _ (rw (e, is_refused) at g)).1).0
    over (Some r) e h g = subst (λ (x : Refusal). range.is_refusal x ≡ true) (refusal_back r why (rw (e, is_refused) at g)) h

no_inode : (n : ℕ) → (n == 0) ≡ true → is_between 0 inodes_max n ≡ true
no_inode n e = grind (arith, nat_tests)

some_inode : (n : ℕ) → range.is_inode n ≡ true → (is_between 0 inodes_max n ≡ true) × (nat_lt 0 n ≡ true)
some_inode n e = (grind (arith, nat_tests), grind (arith, nat_tests))

made_numbered : (f : FileId) → range.is_file f ≡ true → (range.is_group f.group && is_between 0 inodes_max f.ino && nat_lt 0 f.ino) ≡ true
made_numbered f h =
    let parts = both_parts (range.is_group f.group) (range.is_inode f.ino) h in
    let low = some_inode f.ino parts.1 in
    both (range.is_group f.group && is_between 0 inodes_max f.ino) (nat_lt 0 f.ino) (both (range.is_group f.group) (is_between 0 inodes_max f.ino) parts.0 low.0) low.1

-- a refused make has no inode, and any other open has one
numbered_text : (m : Mode) (f : FileId) → opens_file m f ≡ true → (not (is_make m) || (f.ino == 0)) ≡ true → range.is_refused_file m f ≡ true
numbered_text mode.Make f h k = both (range.is_group f.group && is_between 0 inodes_max f.ino) (f.ino == 0) (both (range.is_group f.group) (is_between 0 inodes_max f.ino) h (no_inode f.ino k)) k
numbered_text mode.Read f h k = made_numbered f h
numbered_text mode.Write f h k = made_numbered f h
numbered_text mode.Resolve f h k = made_numbered f h
numbered_text mode.Mend f h k = made_numbered f h

refuse_in : (c : Config) (p : Past) (t : Epoch) (e : EpochId) (id : CallId) (request : ℕ) (i : Serial) (m : Mode) (f : FileId) (why : Refusal) → list_all is_mount c.mounts ≡ true → PastText p → (range.is_request request && range.is_instance i) ≡ true → t.id ≡ e → EpochText t → may_refuse c p t id request m f why ≡ true → range.is_record (rec.Refuse e id request i m f why) ≡ true
refuse_in c p t e id request i m f why mounts h new is own may =
    let a = both_parts (is_number t.started f.group) _ may in
    let b = both_parts (is_synced c t f.group) _ a.1 in
    let d = both_parts (not (is_make m) || (f.ino == 0)) (is_step_of p t id asked) b.1 in
    step_call asked (range.is_record (rec.Refuse e id request i m f why) ≡ true) p t id h (of d.0) d.1
  where
    asked : CallSoFar → Bool
    asked k = asks_open c p request m f k && is_refused c p t m f why k

    of : (not (is_make m) || (f.ino == 0)) ≡ true → (k : CallSoFar) → k.id ≡ id → CallText k → asked k ≡ true → range.is_record (rec.Refuse e id request i m f why) ≡ true
    of numbered k named call so =
        let a = both_parts (asks_open c p request m f k) (is_refused c p t m f why k) so in
        let file : opens_file m f ≡ true = opens_text m f (asks c p k) (both_parts _ (is_open_of m f (asks c p k)) a.0).1 (asks_text c p k mounts call) in
        let news = both_parts (range.is_request request) (range.is_instance i) new in
        both (range.is_epoch e) _ (epoch_text t e is own) (both (range.is_call_id id) _ (named_text k id named call) (both (range.is_request request) _ news.0 (both (range.is_instance i) _ news.1 (both (range.is_refused_file m f) (range.is_refusal why) (numbered_text m f file numbered) (refused_text c p t k m f why own a.1)))))

pub refuse_row : (c : Config) (p : Past) (e : EpochId) (id : CallId) (request : ℕ) (i : Serial) (m : Mode) (f : FileId) (why : Refusal) → list_all is_mount c.mounts ≡ true → PastText p → (range.is_request request && range.is_instance i) ≡ true → may_refuse c p (epoch_at p e) id request m f why ≡ true → range.is_record (rec.Refuse e id request i m f why) ≡ true
refuse_row c p e id request i m f why mounts h new = at_epoch (λ t. may_refuse c p t id request m f why ≡ true → range.is_record (rec.Refuse e id request i m f why) ≡ true) p e h
    (λ may. false_true may)
    (λ t is own may. refuse_in c p t e id request i m f why mounts h new is own may)
