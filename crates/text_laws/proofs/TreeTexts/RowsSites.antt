-- Records of sites and of starts are texts.
use Rattle.std.proofs.Common.{◌≡◌, ◌≤◌, ◌⊎◌, inl, inr, ℕ, ◌-◌, ◌==◌, ◌&&◌, not, Bool, true, false, cond, List, [], ◌∷◌, filter, map, take, length, refl, sym, ap, ◌∙◌, subst, arith}
use Rattle.std.proofs.lemmas.Bool.Decides.{nat_tests}
use Rattle.std.proofs.lemmas.List.{get_or_past}
use Rattle.std.proofs.lemmas.Nat.Bits.{bit_at-zero}
use Rattle.std.specs.Prelude.{nat_lt}
use Rattle.std.specs.List.{list_all, list_any}
use Rattle.locus_ids.specs.Sites.{has}
use Rattle.locus_ids.specs.declared.config.Config.{Config}
use Rattle.locus_ids.specs.declared.sites.Members.{Members}
use Rattle.locus_ids.specs.declared.sites.Sites.{Sites}
use Rattle.locus_ids.specs.declared.ids.Brought.{Brought}
use Rattle.locus_ids.specs.declared.ids.EpochId.{EpochId}
use Rattle.locus_ids.specs.declared.ids.FileId.{FileId}
use Rattle.locus_ids.specs.declared.ids.Stamp.{Stamp}
use Rattle.commit_graph.specs.Versions.{same_file, same_stamp}
use Rattle.trace_book.specs.declared.record.Record.TheVariants as rec
use Rattle.trace_book.specs.declared.record.StopCause.{StopCause}
use Rattle.trace_book.specs.declared.record.StopCause.TheVariants as cause
use Rattle.tree_model.specs.Epochs.{is_in}
use Rattle.tree_model.specs.Packs.{all_sites, has_pack, is_member, no_sites}
use Rattle.tree_model.specs.State.{has_stamp}
use Rattle.tree_model.specs.Same.{same_brought}
use Rattle.promises.specs.Past.{Past, Epoch, Copy, site_at, epoch_at, unformed, candidates, is_number, packing, sync_of}
use Rattle.promises.specs.After.{is_copy_below}
use Rattle.promises.specs.Rows.{brought_in, is_synced, is_there, may_adopt, may_boot, may_join, may_leave, may_start, may_stop}
use Rattle.promises.specs.Same.{same_list}
use Rattle.past_laws.specs.Agreement.{ascends}
use Rattle.past_laws.proofs.Alls.{all_filtered, all_first, all_images, all_weaker}
use Rattle.past_laws.proofs.Names.{both, both_parts, false_true, file_eq, stamp_eq, true_or_false}
use Rattle.record_reading.specs.Ranges as range
use Rattle.text_laws.proofs.TreeTexts.Starts.{start_in_order}
use Rattle.text_laws.proofs.TreeTexts.Same.{brought_all}
use Rattle.text_laws.proofs.TreeTexts.Texts.{EpochText, PastText, at_epoch, each_any, home_epoch, home_site, is_copy, there_site, up_site}

pub up_row : (p : Past) (site boot : ℕ) → PastText p → may_boot p site boot ≡ true → range.is_counted boot ≡ true → range.is_record (rec.Up site boot) ≡ true
up_row p site boot h may new = both (range.is_any_site site) (range.is_counted boot) (there_site p site h (both_parts (is_there p site) _ may).0) new

pub stop_row : (p : Past) (site : ℕ) (why : StopCause) → PastText p → may_stop p site why ≡ true → range.is_record (rec.Stopped site why) ≡ true
stop_row p site cause.Asked h may = up_site p site h may
stop_row p site cause.Fuse h may = there_site p site h may
stop_row p site cause.Fault h may = there_site p site h may

pub leave_row : (p : Past) (site : ℕ) (e : EpochId) → PastText p → may_leave p site e ≡ true → range.is_record (rec.Leave site e) ≡ true
leave_row p site e h may = both (range.is_any_site site) (range.is_epoch e) (home_site p site e h may) (home_epoch p site e h may)

pub join_row : (p : Past) (site : ℕ) (e : EpochId) (members : Members) → PastText p → may_join p site e members ≡ true → (range.is_epoch e && range.is_members members) ≡ true → range.is_record (rec.Join site e members) ≡ true
join_row p site e members h may new = both (range.is_any_site site) (range.is_epoch e && range.is_members members) (up_site p site h (both_parts (site_at p site).up _ may).0) new

-- ---- starts ----

-- one of the first that passes
taken_one : (r q : ℕ → Bool) (A : Type 0) (xs : List ℕ) → ((x : ℕ) → q x ≡ true → A) → list_any r (take 1 (filter q xs)) ≡ true → A
taken_one r q A [] of h = false_true h
taken_one r q A (x ∷ xs) of h = at (q x) refl (taken_one r q A xs of) h
  where
    at : (b : Bool) → q x ≡ b → (list_any r (take 1 (filter q xs)) ≡ true → A) → list_any r (take 1 (cond b (x ∷ filter q xs) (filter q xs))) ≡ true → A
    at true e later g = of x e
    at false e later g = later g

none_has : (z : ℕ) → has no_sites z ≡ false
none_has z = rw (bit_at-zero (z - 1)) refl

-- a group of which some site has a pack
packed_group : (c : Config) → length c.packs ≤ 4 → (group site : ℕ) → has_pack c group site ≡ true → range.is_group group ≡ true
packed_group c few group site h = over (true_or_false (nat_lt group 4))
  where
    below : nat_lt group 4 ≡ true → range.is_group group ≡ true
    below e = grind (arith, nat_tests)

    past : nat_lt group 4 ≡ false → length c.packs ≤ group
    past e = let f : 4 ≤ group = grind (arith, nat_tests) in omega (arith, few, f)

    over : (nat_lt group 4 ≡ true) ⊎ (nat_lt group 4 ≡ false) → range.is_group group ≡ true
    over (inl e) = below e
    over (inr e) = false_true (sym (none_has site) ∙ (ap (λ (s : Sites). has s site) (sym (get_or_past c.packs group no_sites (past e))) ∙ h))

nobody : (xs : List ℕ) → list_any (is_number []) xs ≡ true → false ≡ true
nobody [] h = h
nobody (x ∷ xs) h = nobody xs h

brought_text : (t : Epoch) (group : ℕ) → EpochText t → list_all range.is_brought (brought_in t group) ≡ true
brought_text t group h = all_images range.is_brought brought (filter in_group t.known) (all_weaker is_copy (λ v. range.is_brought (brought v)) one (filter in_group t.known) (all_filtered is_copy in_group t.known h.known))
  where
    brought : Copy → Brought
    brought v = record { ino = v.file.ino; stamp = v.stamp }

    in_group : Copy → Bool
    in_group v = v.file.group == group

    one : (v : Copy) → is_copy v ≡ true → range.is_brought (brought v) ≡ true
    one v k = let parts = both_parts (range.is_file v.file) (range.is_stamp v.stamp) k in both (range.is_inode v.file.ino) (range.is_stamp v.stamp) (both_parts (range.is_group v.file.group) (range.is_inode v.file.ino) parts.0).1 parts.1

-- what a start in this epoch says, but for its order
start_parts : (c : Config) (t : Epoch) (e : EpochId) (group : ℕ) (copies : List Brought) → length c.packs ≤ 4 → t.id ≡ e → EpochText t → may_start c t group copies ≡ true → (range.is_group group ≡ true) × (list_all range.is_brought copies ≡ true)
start_parts c t e group copies few is h may =
    let a = both_parts (not (is_number t.started group)) (is_synced c t group && (list_all (is_number t.joined) (packing c t group) && same_list same_brought copies (brought_in t group))) may in
    let b = both_parts (is_synced c t group) (list_all (is_number t.joined) (packing c t group) && same_list same_brought copies (brought_in t group)) a.1 in
    let d = both_parts (list_all (is_number t.joined) (packing c t group)) (same_list same_brought copies (brought_in t group)) b.1 in (
      taken_one (is_number t.joined) (λ site. is_member t.members site && has_pack c group site) (range.is_group group ≡ true) all_sites (λ site k. packed_group c few group site (both_parts (is_member t.members site) (has_pack c group site) k).1) b.0,
      brought_all copies (brought_in t group) d.1 (brought_text t group h),
    )

-- an epoch that nobody has joined starts nothing
unstarted : (c : Config) (e : EpochId) (group : ℕ) (copies : List Brought) → may_start c (unformed e) group copies ≡ true → false ≡ true
unstarted c e group copies may =
    let t : Epoch = unformed e in
    let rest : Bool = list_all (is_number t.joined) (packing c t group) && same_list same_brought copies (brought_in t group) in
    nobody (sync_of c t group) (both_parts (is_synced c t group) rest (both_parts (not (is_number t.started group)) (is_synced c t group && rest) may).1).0

pub start_row : (c : Config) (p : Past) (e : EpochId) (group : ℕ) (copies : List Brought) → length c.packs ≤ 4 → PastText p → ascends is_copy_below (epoch_at p e).known ≡ true → may_start c (epoch_at p e) group copies ≡ true → range.is_record (rec.Start e group copies) ≡ true
start_row c p e group copies few h order may =
    let parts : (range.is_epoch e ≡ true) × (range.is_group group ≡ true) × (list_all range.is_brought copies ≡ true) = at_epoch (λ t. may_start c t group copies ≡ true → (range.is_epoch e ≡ true) × (range.is_group group ≡ true) × (list_all range.is_brought copies ≡ true)) p e h
    (λ k. false_true (unstarted c e group copies k))
    (λ t is k m. (let s = start_parts c t e group copies few is k m in (id_text t is k, s.0, s.1))) may in
    both (range.is_epoch e) _ parts.0 (both (range.is_group group) _ parts.1 (both (list_all range.is_brought copies) (range.ascend copies) parts.2 (start_in_order c p e group copies order may)))
  where
    id_text : (t : Epoch) → t.id ≡ e → EpochText t → range.is_epoch e ≡ true
    id_text t is k = ap (λ d. range.is_epoch d) (sym is) ∙ k.id

-- ---- adoptions ----

-- a version with this stamp is among them
stamp_there : (f : FileId) (stamp : Stamp) (vs : List Copy) → list_all is_copy vs ≡ true → has_stamp (map (λ (v : Copy). v.stamp) (filter (λ (v : Copy). same_file v.file f) vs)) stamp ≡ true → (range.is_file f ≡ true) × (range.is_stamp stamp ≡ true)
stamp_there f stamp [] h k = false_true k
stamp_there f stamp (v ∷ vs) h k =
    let parts = all_first is_copy v vs h in
    let own = both_parts (range.is_file v.file) (range.is_stamp v.stamp) parts.0 in
    over own.0 own.1 (stamp_there f stamp vs parts.1) (same_file v.file f) refl (same_stamp v.stamp stamp) refl k
  where
    rest : List Stamp
    rest = map (λ (w : Copy). w.stamp) (filter (λ (w : Copy). same_file w.file f) vs)

    over : range.is_file v.file ≡ true → range.is_stamp v.stamp ≡ true → (has_stamp rest stamp ≡ true → (range.is_file f ≡ true) × (range.is_stamp stamp ≡ true)) → (a : Bool) → same_file v.file f ≡ a → (b : Bool) → same_stamp v.stamp stamp ≡ b
        → has_stamp (map (λ (w : Copy). w.stamp) (cond a (v ∷ filter (λ (w : Copy). same_file w.file f) vs) (filter (λ (w : Copy). same_file w.file f) vs))) stamp ≡ true → (range.is_file f ≡ true) × (range.is_stamp stamp ≡ true)
    over file own later true d true e g = (subst (λ (x : FileId). range.is_file x ≡ true) (file_eq v.file f d) file, subst (λ (x : Stamp). range.is_stamp x ≡ true) (stamp_eq v.stamp stamp e) own)
    over file own later true d false e g = later (rw e at g)
    over file own later false d b e g = later g

pub adopt_row : (p : Past) (f : FileId) (site : ℕ) (stamp : Stamp) → PastText p → list_any (may_adopt p f site stamp) p.epochs ≡ true → range.is_record (rec.Adopt f site stamp) ≡ true
adopt_row p f site stamp h may = each_any EpochText (range.is_record (rec.Adopt f site stamp) ≡ true) (may_adopt p f site stamp) p.epochs one h.epochs may
  where
    one : (t : Epoch) → may_adopt p f site stamp t ≡ true → EpochText t → range.is_record (rec.Adopt f site stamp) ≡ true
    one t m k =
        let a = both_parts (is_in (site_at p site).epoch t.id) _ m in
        let b = stamp_there f stamp t.known k.known (both_parts (has_stamp (candidates t f) stamp) _ a.1).0 in
        both (range.is_file f) _ b.0 (both (range.is_any_site site) (range.is_stamp stamp) (home_site p site t.id h a.0) b.1)
