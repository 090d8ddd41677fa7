-- The converse for starts, opens and commits: a record that may follow what the records so far tell comes by its row of the
-- lawful trace. So the new rows let nothing through that the old ones refuse.
use Rattle.std.proofs.Common.{◌≡◌, ℕ, ◌+◌, ◌-◌, ◌*◌, ◌==◌, ◌≤◌, ◌<◌, Bool, true, false, not, cond, ◌&&◌, ◌||◌, ◌++◌, List, [], ◌∷◌, length, filter, take, Option, Some, None, refl, sym, ap, ◌∙◌, ◌⊎◌, inl, inr, arith, zero, suc}
use Rattle.std.specs.Prelude.{nat_lt, nat_le, suc, zero}
use Rattle.std.specs.List.{find, list_any, list_all}
use Rattle.std.specs.Option.{option_map, option_or, is_none, is_some}
use Rattle.std.proofs.lemmas.Bool.{le-leb, lt-ltb}
use Rattle.locus_ids.specs.Sites.{has}
use Rattle.locus_ids.specs.declared.config.Config.{Config}
use Rattle.locus_ids.specs.declared.sites.Members.{Members}
use Rattle.locus_ids.specs.declared.ids.CallId.{CallId}
use Rattle.locus_ids.specs.declared.ids.EpochId.{EpochId}
use Rattle.locus_ids.specs.declared.ids.FileId.{FileId}
use Rattle.locus_ids.specs.declared.ids.Mode.{Mode}
use Rattle.locus_ids.specs.declared.ids.Stamp.{Stamp}
use Rattle.locus_ids.specs.declared.refusal.Refusal.{Refusal}
use Rattle.commit_graph.specs.Grants.{grant_refusal, Opener, excluder}
use Rattle.commit_graph.specs.Vectors.{numbers_from}
use Rattle.commit_graph.specs.Versions.{same_file, same_stamp}
use Rattle.trace_book.specs.Same.{same_serial}
use Rattle.tree_model.specs.declared.instance.Granted.{Granted}
use Rattle.tree_model.specs.Epochs.{members_of, is_in, has_joined}
use Rattle.tree_model.specs.Folds.{Trace}
use Rattle.tree_model.specs.Histories.{history}
use Rattle.tree_model.specs.Packs.{has_pack, is_member, is_member_of, sync_site, all_sites}
use Rattle.tree_model.specs.Same.{same_version, same_all, same_brought}
use Rattle.tree_model.specs.Tree.{tree_of}
use Rattle.tree_model.specs.Working.{list_of}
use Rattle.promises.specs.Past.{Past, Epoch, CallSoFar, epoch_at, is_number, sync_of, held_in, kept_in, asks, packing}
use Rattle.promises.specs.Same.{same_list}
use Rattle.promises.specs.After.{is_id}
use Rattle.past_laws.specs.Agreement.{Agrees, waiting_as}
use Rattle.past_laws.proofs.Names.{number_eq, false_true, both, both_parts, epoch_eq}
use Rattle.past_laws.proofs.RowsServed.{member_as, sync_as, synced_as}
use Rattle.past_laws.proofs.TreesFolds.{config_is, group_is, members_are}
use Rattle.past_laws.proofs.TreesLists.{found_wider, first_only, found_passes, any_reverse, any_found}
use Rattle.locus_ids.specs.declared.ids.Serial.{Serial}
use Rattle.call_rules.specs.declared.want.Want.{Want}
use Rattle.tree_model.specs.Given.{refuses, is_unnumbered}
use Rattle.promises.specs.of_lawful_trace.Progress.{wants_after, wants_next, is_packed_in}
use Rattle.promises.specs.of_lawful_trace.Tables.{descriptor}
use Rattle.promises.specs.of_lawful_trace.TreeRows.{IsCallIn, MayOpen, is_open_of, MayStart, MayGrant, MayRefuse}
use Rattle.promises.specs.Rows.{may_follow, is_step_of, is_refused, is_synced, asks_open, brought_in}
use Rattle.past_laws.proofs.CallsAsks.{is_request, asks_by, wants_by, request_same}
use Rattle.past_laws.proofs.TreesAt.{id_at}
use Rattle.past_laws.proofs.TreesNumbers.{at_site}
use Rattle.past_laws.proofs.TreesOpening.{place_is, refusal_is, resolving_is, kept_as}
use Rattle.locus_ids.specs.declared.ids.Brought.{Brought}
use Rattle.call_rules.specs.Descriptors.{lowest_free}
use Rattle.call_rules.specs.Scripts.{wants}
use Rattle.tree_model.specs.Opening.{is_placed}
use Rattle.past_laws.proofs.RowsStart.{all_of_filter, same_so}
use Rattle.past_laws.proofs.RowsTrees.{Within, own_call, answered_as, open_request, site_of, refused_is}
use Rattle.locus_ids.specs.Sizes.{site_inodes, sites_max}
use Rattle.locus_ids.specs.declared.ids.Mode.TheVariants as mode
use Rattle.tree_model.specs.Opening as old
use Rattle.tree_model.specs.State as state
use Rattle.promises.specs.Tree as new
use Rattle.trace_book.specs.declared.record.Record.TheVariants as says

-- The call of which a record is a step.

pub record Caller (p : Past) (id : CallId) (passes : CallSoFar → Bool) : Type 0 where
  pub call : CallSoFar
  pub found : find (is_id id) p.calls ≡ Some call
  pub so : passes call ≡ true

pub caller : (c : Config) (before : Trace) (p : Past) → Agrees c before p → (id : CallId) (passes : CallSoFar → Bool) → list_any (λ (k : CallSoFar). is_id id k && passes k) p.calls ≡ true → Caller p id passes
caller c before p a id passes h = at (find (λ (k : CallSoFar). is_id id k && passes k) p.calls) refl
  where
    at : (o : Option CallSoFar) → find (λ (k : CallSoFar). is_id id k && passes k) p.calls ≡ o → Caller p id passes
    at None e = false_true (sym (ap is_some e) ∙ (sym (any_found (λ (k : CallSoFar). is_id id k && passes k) p.calls) ∙ h))
    at (Some k) e = record { call = k; found = found_wider (is_id id) passes p.calls k (a.calls.once id) e; so = (both_parts (is_id id k) (passes k) (found_passes (λ (x : CallSoFar). is_id id x && passes x) p.calls k e)).1 }

pub in_is : (o : Option EpochId) (e : EpochId) → is_in o e ≡ true → o ≡ Some e
in_is None e h = false_true h
in_is (Some now) e h = ap (λ x. Some x) (epoch_eq now e h)

pub call_in : (c : Config) (before : Trace) (p : Past) → Agrees c before p → (e : EpochId) (id : CallId) (k : CallSoFar) → find (is_id id) p.calls ≡ Some k → is_in k.epoch (epoch_at p e).id ≡ true → IsCallIn before e id
call_in c before p a e id k found inside = record { accepted = waiting_as k; named = sym (a.calls.named id) ∙ ap (option_map waiting_as) found; made_in = in_is k.epoch e (ap (is_in k.epoch) (sym (id_at p e)) ∙ inside) }

-- what it asks by the value, the folds say that it asks
pub asks_back : (c : Config) (before : Trace) (p : Past) → Agrees c before p → (id : CallId) (k : CallSoFar) → find (is_id id) p.calls ≡ Some k → (w : Want) → asks c p k ≡ w → is_request w ≡ true → wants_next c before id ≡ w
asks_back c before p a id k found w h r = ap (wants_next c before) (sym own) ∙ (ap (wants_after c before k.id) (sym (a.calls.answers k own_found)) ∙ (wants_by c before p a k own_found k.answers
    ∙ (request_same c.mounts (is_packed_in c before k.epoch) k.free (lowest_free (descriptor before k.id.site k.process)) k.words k.begins k.answers (ap is_request by ∙ r) ∙ by)))
  where
    own : k.id ≡ id
    own = own_call p id k found

    own_found : find (is_id k.id) p.calls ≡ Some k
    own_found = ap (λ d. find (is_id d) p.calls) own ∙ found

    by : wants c.mounts (is_packed_in c before k.epoch) k.free k.words k.begins k.answers ≡ w
    by = sym (asks_by c before p a k k.answers) ∙ h

-- Starts.

pub back_start : (c : Config) (before : Trace) (p : Past) (e : EpochId) (group : ℕ) (copies : List Brought) → Agrees c before p → may_follow c p (says.Start e group copies) ≡ true → MayStart c before e group copies
back_start c before p e group copies a h = record {
  gives = both (not (tree_of c e group before).started) (same_all copies (tree_of c e group before).known) (ap not (sym (a.trees.started e group)) ∙ new.0)
      (ap (same_all copies) (sym (a.trees.known e group)) ∙ (same_so copies (brought_in u group) ∙ all.1));
  served = synced_as c before p e group a ∙ served.0;
  whole = sym whole ∙ (sym (all_of_filter (is_number u.joined) (λ site. is_member u.members site && has_pack c group site) all_sites) ∙ all.0);
}
  where
    u : Epoch
    u = epoch_at p e

    new : (not (is_number u.started group) ≡ true) × ((is_synced c u group && (list_all (is_number u.joined) (packing c u group) && same_list same_brought copies (brought_in u group))) ≡ true)
    new = both_parts (not (is_number u.started group)) (is_synced c u group && (list_all (is_number u.joined) (packing c u group) && same_list same_brought copies (brought_in u group))) h

    served : (is_synced c u group ≡ true) × ((list_all (is_number u.joined) (packing c u group) && same_list same_brought copies (brought_in u group)) ≡ true)
    served = both_parts (is_synced c u group) (list_all (is_number u.joined) (packing c u group) && same_list same_brought copies (brought_in u group)) new.1

    all : (list_all (is_number u.joined) (packing c u group) ≡ true) × (same_list same_brought copies (brought_in u group) ≡ true)
    all = both_parts (list_all (is_number u.joined) (packing c u group)) (same_list same_brought copies (brought_in u group)) served.1

    whole : list_all (λ site. not (is_member u.members site && has_pack c group site) || is_number u.joined site) all_sites
        ≡ list_all (λ site. not (is_member_of (members_of before e) site && has_pack c group site) || has_joined before site e) all_sites
    whole = ap (λ (q : ℕ → Bool). list_all q all_sites) (λ i site. not (member_as c before p e site a i && has_pack c group site) || a.epochs.joined e site i)

-- Opens.

-- an open that a call of the epoch asks next
pub open_back : (c : Config) (before : Trace) (p : Past) → Agrees c before p → (e : EpochId) (id : CallId) (request : ℕ) (m : Mode) (f : FileId) (k : CallSoFar) → find (is_id id) p.calls ≡ Some k → is_in k.epoch (epoch_at p e).id ≡ true → asks_open c p request m f k ≡ true → is_synced c (epoch_at p e) f.group ≡ true → MayOpen c before e id request m f
open_back c before p a e id request m f k found inside asked served = record {
  served = synced_as c before p e f.group a ∙ served;
  step = call_in c before p a e id k found inside;
  numbered = number_eq request (length k.answers + 1) parts.0 ∙ ap (λ xs. length xs + 1) (answered_as c before p a id k found);
  asked = ap (is_open_of m f) (asks_back c before p a id k found (asks c p k) refl (open_request m f (asks c p k) parts.1)) ∙ parts.1;
}
  where
    parts : ((request == length k.answers + 1) ≡ true) × (is_open_of m f (asks c p k) ≡ true)
    parts = both_parts (request == length k.answers + 1) (is_open_of m f (asks c p k)) asked

only_back : (ss : List Stamp) (o : Option Stamp) → (ss ≡ [] → ⊥) → same_list same_stamp ss (list_of o) ≡ true → old.is_only ss o ≡ true
only_back [] o some h = absurd (some refl)
only_back (x ∷ []) None some h = false_true h
only_back (x ∷ []) (Some s) some h = (both_parts (same_stamp x s) true h).0
only_back (x ∷ y ∷ ys) None some h = false_true h
only_back (x ∷ y ∷ ys) (Some s) some h = false_true (both_parts (same_stamp x s) false h).1

-- without a kept version a read or a write is refused
nothing_kept : (m : Mode) (os : List Opener) (why : Option Refusal) → (m ≡ mode.Read) ⊎ (m ≡ mode.Write) → is_none (option_or (grant_refusal m os []) why) ≡ false
nothing_kept mode.Read os why which = at (excluder mode.Read os) refl
  where
    at : (o : Option Opener) → excluder mode.Read os ≡ o → is_none (option_or (grant_refusal mode.Read os []) why) ≡ false
    at None e = rw (e, grant_refusal) refl
    at (Some x) e = rw (e, grant_refusal) refl
nothing_kept mode.Write os why which = at (excluder mode.Write os) refl
  where
    at : (o : Option Opener) → excluder mode.Write os ≡ o → is_none (option_or (grant_refusal mode.Write os []) why) ≡ false
    at None e = rw (e, grant_refusal) refl
    at (Some x) e = rw (e, grant_refusal) refl
nothing_kept m os why (inl e) = absurd (cc)
nothing_kept m os why (inr e) = absurd (cc)

range_back : (first n x : ℕ) → is_number (numbers_from first n) x ≡ true → (first ≤ x) × (x < first + n)
range_back first zero x h = false_true h
range_back first (suc n) x h = at (range_back (first + 1) n x) (first == x) refl h
  where
    own : first ≡ x → (first ≤ x) × (x < first + suc n)
    own e = (omega arith, omega arith)

    more : (first + 1 ≤ x) × (x < (first + 1) + n) → (first ≤ x) × (x < first + suc n)
    more k = (omega (arith, k.0), omega (arith, k.1))

    at : (is_number (numbers_from (first + 1) n) x ≡ true → (first + 1 ≤ x) × (x < (first + 1) + n)) → (b : Bool) → (first == x) ≡ b → (b || is_number (numbers_from (first + 1) n) x) ≡ true → (first ≤ x) × (x < first + suc n)
    at later true e k = own (number_eq first x e)
    at later false e k = more (later k)

given_back : (site ino : ℕ) → 1 ≤ site → is_number (old.range_of site) ino ≡ true → nat_lt 1 ino ≡ true → old.is_given_by site ino ≡ true
given_back site ino low h one = both (nat_lt (site_inodes * site) (ino + site_inodes)) (nat_le ino (site_inodes * site) && nat_lt 1 ino) (lt-ltb (site_inodes * site) (ino + site_inodes) (omega (arith, bounds.0, low)))
    (both (nat_le ino (site_inodes * site)) (nat_lt 1 ino) (le-leb ino (site_inodes * site) (omega (arith, bounds.1, low))) one)
  where
    bounds : (site_inodes * (site - 1) + 1 ≤ ino) × (ino < (site_inodes * (site - 1) + 1) + site_inodes)
    bounds = range_back (site_inodes * (site - 1) + 1) site_inodes ino h

-- the place of a make is a member
place_passes : (q : ℕ → Bool) (xs : List ℕ) (site : ℕ) → is_number (take 1 (filter q xs)) site ≡ true → q site ≡ true
place_passes q xs site h = at (find q xs) refl (ap (λ ys. is_number ys site) (sym (first_only q xs)) ∙ h)
  where
    at : (o : Option ℕ) → find q xs ≡ o → is_number (list_of o) site ≡ true → q site ≡ true
    at None e k = false_true k
    at (Some s) e k = ap q (sym (number_eq s site (sym (or_false (s == site)) ∙ k))) ∙ found_passes q xs s e
      where
        or_false : (b : Bool) → (b || false) ≡ b
        or_false true = refl
        or_false false = refl

no_zero : (m : Members) (site : ℕ) → is_member m site ≡ true → 1 ≤ site
no_zero m zero h = false_true h
no_zero m (suc n) h = omega arith

pub placed_back : (c : Config) (before : Trace) (p : Past) → Agrees c before p → (e : EpochId) (id : CallId) (k : CallSoFar) → find (is_id id) p.calls ≡ Some k → (m : Mode) (f : FileId) (stamp : Option Stamp) (ss : ℕ) → is_none (old.open_refusal (history c before) (tree_of c e f.group before) m id f) ≡ true → new.is_placed c p (epoch_at p e) k m f stamp ss ≡ true → old.is_placed (history c before) (tree_of c e f.group before) id m f stamp ss ≡ true
placed_back c before p a e id k found m f stamp ss granted h = at m granted h
  where
    t : state.TreeState
    t = tree_of c e f.group before

    kept_some : (n : Mode) → (n ≡ mode.Read) ⊎ (n ≡ mode.Write) → is_none (option_or (grant_refusal n (state.openers t f) (state.kept_of (history c before) t f)) None) ≡ true → state.kept_of (history c before) t f ≡ [] → ⊥
    kept_some n which g e = false_true (sym (nothing_kept n (state.openers t f) None which) ∙ (ap (λ ss. is_none (option_or (grant_refusal n (state.openers t f) ss) None)) (sym e) ∙ g))

    by_only : (n : Mode) → (n ≡ mode.Read) ⊎ (n ≡ mode.Write) → is_none (option_or (grant_refusal n (state.openers t f) (state.kept_of (history c before) t f)) None) ≡ true → (same_list same_stamp (kept_in p (epoch_at p e) f) (list_of stamp) && same_version (held_in p (epoch_at p e) ss f) stamp) ≡ true → (old.is_only (state.kept_of (history c before) t f) stamp && same_version (state.held_at t ss f.ino) stamp) ≡ true
    by_only n which g h = (let parts : (same_list same_stamp (kept_in p (epoch_at p e) f) (list_of stamp) ≡ true) × (same_version (held_in p (epoch_at p e) ss f) stamp ≡ true) = both_parts (same_list same_stamp (kept_in p (epoch_at p e) f) (list_of stamp)) (same_version (held_in p (epoch_at p e) ss f) stamp) h
        in both (old.is_only (state.kept_of (history c before) t f) stamp) (same_version (state.held_at t ss f.ino) stamp)
        (only_back (state.kept_of (history c before) t f) stamp (kept_some n which g) (ap (λ ss. same_list same_stamp ss (list_of stamp)) (sym (kept_as c before p a e f)) ∙ parts.0))
        (ap (λ o. same_version o stamp) (sym (a.trees.held e ss f)) ∙ parts.1))

    makes : (is_number (new.place_for c (epoch_at p e) f.group k) ss && (new.is_new_at p (epoch_at p e) f ss && is_none stamp)) ≡ true → (old.is_new_file t id f ss && is_none stamp) ≡ true
    makes h = both (old.is_new_file t id f ss) (is_none stamp)
        (both (old.is_site (old.making_site t id) ss) (old.is_given_by ss f.ino && (is_none (state.held_at t ss f.ino) && not (state.is_taken t f))) (sym (at_site (old.making_site t id) ss) ∙ (ap (λ ys. is_number ys ss) (sym (place_is c before p a e f.group id k found)) ∙ outer.0))
        (both (old.is_given_by ss f.ino) (is_none (state.held_at t ss f.ino) && not (state.is_taken t f)) (given_back ss f.ino low new_at.0 one.0)
        (both (is_none (state.held_at t ss f.ino)) (not (state.is_taken t f)) (ap is_none (sym (a.trees.held e ss f)) ∙ free.0)
        (ap not (ap (list_any (λ (g : Granted). same_file g.file f)) (sym (a.trees.granted e f.group)) ∙ any_reverse (λ (g : Granted). same_file g.file f) (epoch_at p e).granted) ∙ free.1)))) inner.1
      where
        outer : (is_number (new.place_for c (epoch_at p e) f.group k) ss ≡ true) × ((new.is_new_at p (epoch_at p e) f ss && is_none stamp) ≡ true)
        outer = both_parts (is_number (new.place_for c (epoch_at p e) f.group k) ss) (new.is_new_at p (epoch_at p e) f ss && is_none stamp) h

        inner : (new.is_new_at p (epoch_at p e) f ss ≡ true) × (is_none stamp ≡ true)
        inner = both_parts (new.is_new_at p (epoch_at p e) f ss) (is_none stamp) outer.1

        new_at : (is_number (old.range_of ss) f.ino ≡ true) × ((nat_lt 1 f.ino && (is_none (held_in p (epoch_at p e) ss f) && not (list_any (λ (g : Granted). same_file g.file f) (epoch_at p e).granted))) ≡ true)
        new_at = both_parts (is_number (old.range_of ss) f.ino) (nat_lt 1 f.ino && (is_none (held_in p (epoch_at p e) ss f) && not (list_any (λ (g : Granted). same_file g.file f) (epoch_at p e).granted))) inner.0

        one : (nat_lt 1 f.ino ≡ true) × ((is_none (held_in p (epoch_at p e) ss f) && not (list_any (λ (g : Granted). same_file g.file f) (epoch_at p e).granted)) ≡ true)
        one = both_parts (nat_lt 1 f.ino) (is_none (held_in p (epoch_at p e) ss f) && not (list_any (λ (g : Granted). same_file g.file f) (epoch_at p e).granted)) new_at.1

        free : (is_none (held_in p (epoch_at p e) ss f) ≡ true) × (not (list_any (λ (g : Granted). same_file g.file f) (epoch_at p e).granted) ≡ true)
        free = both_parts (is_none (held_in p (epoch_at p e) ss f)) (not (list_any (λ (g : Granted). same_file g.file f) (epoch_at p e).granted)) one.1

        low : 1 ≤ ss
        low = no_zero (epoch_at p e).members ss (both_parts (is_member (epoch_at p e).members ss) (has (new.set_for c f.group k) ss) (place_passes (λ site. is_member (epoch_at p e).members site && has (new.set_for c f.group k) site) (k.id.site ∷ sync_of c (epoch_at p e) f.group ++ all_sites) ss outer.0)).0

    at : (n : Mode) → is_none (old.open_refusal (history c before) t n id f) ≡ true → new.is_placed c p (epoch_at p e) k n f stamp ss ≡ true → old.is_placed (history c before) t id n f stamp ss ≡ true
    at mode.Read g h = by_only mode.Read (inl refl) g h
    at mode.Write g h = by_only mode.Write (inr refl) g h
    at mode.Resolve g h = (let parts : (is_number (new.resolves_from k.words) ss ≡ true) × (same_version (held_in p (epoch_at p e) ss f) stamp ≡ true) = both_parts (is_number (new.resolves_from k.words) ss) (same_version (held_in p (epoch_at p e) ss f) stamp) h
        in both (old.is_site (old.resolving_site t id) ss) (same_version (state.held_at t ss f.ino) stamp) (sym (at_site (old.resolving_site t id) ss) ∙ (ap (λ ys. is_number ys ss) (sym (resolving_is c before p a e f.group id k found)) ∙ parts.0)) (ap (λ o. same_version o stamp) (sym (a.trees.held e ss f)) ∙ parts.1))
    at mode.Mend g h = (let parts : (is_number (sync_of c (epoch_at p e) f.group) ss ≡ true) × (same_version (held_in p (epoch_at p e) ss f) stamp ≡ true) = both_parts (is_number (sync_of c (epoch_at p e) f.group) ss) (same_version (held_in p (epoch_at p e) ss f) stamp) h
        in both (old.is_site (sync_site t.config t.group t.members) ss) (same_version (state.held_at t ss f.ino) stamp)
        (ap (λ o. old.is_site o ss) (ap (λ d. sync_site d t.group t.members) (config_is c e f.group before) ∙ (ap (λ g. sync_site c g t.members) (group_is c e f.group before) ∙ ap (sync_site c f.group) (members_are c e f.group before))) ∙ (sym (at_site (sync_site c f.group (members_of before e)) ss) ∙ (ap (λ ys. is_number ys ss) (sym (sync_as c before p e f.group a)) ∙ parts.0)))
        (ap (λ o. same_version o stamp) (sym (a.trees.held e ss f)) ∙ parts.1))
    at mode.Make g h = makes h

pub back_grant : (c : Config) (before : Trace) (p : Past) (e : EpochId) (id : CallId) (request : ℕ) (i : Serial) (m : Mode) (f : FileId) (stamp : Option Stamp) (ss : ℕ) → c.sites ≤ sites_max → Agrees c before p → may_follow c p (says.Grant e id request i m f stamp ss) ≡ true → MayGrant c before e id request i m f stamp ss
back_grant c before p e id request i m f stamp ss few a h = record {
  opens = open_back c before p a e id request m f it.call it.found inside.0 asked.0 served.0;
  gives = both t.started (is_none (old.open_refusal (history c before) t m id f) && ((i.us == id.site) && (not (state.is_granted t i) && old.is_placed (history c before) t id m f stamp ss))) (sym (a.trees.started e f.group) ∙ started.0)
      (both (is_none (old.open_refusal (history c before) t m id f)) ((i.us == id.site) && (not (state.is_granted t i) && old.is_placed (history c before) t id m f stamp ss)) unrefused
      (both (i.us == id.site) (not (state.is_granted t i) && old.is_placed (history c before) t id m f stamp ss) us.0
      (both (not (state.is_granted t i)) (old.is_placed (history c before) t id m f stamp ss) (ap not (ap (list_any (λ (g : Granted). same_serial g.inst i)) (sym (a.trees.granted e f.group)) ∙ any_reverse (λ (g : Granted). same_serial g.inst i) u.granted) ∙ fresh.0)
      (placed_back c before p a e id it.call it.found m f stamp ss unrefused asked_placed.1))));
  there = sym (a.epochs.joined e ss) ∙ there.0;
}
  where
    t : state.TreeState
    t = tree_of c e f.group before

    u : Epoch
    u = epoch_at p e

    passes : CallSoFar → Bool
    passes k = is_none (new.open_refusal c p u k m f) && new.is_placed c p u k m f stamp ss

    is_fresh : Bool
    is_fresh = not (list_any (λ (g : Granted). same_serial g.inst i) u.granted)

    stepped : Bool
    stepped = is_step_of p u id (λ k. asks_open c p request m f k && passes k)

    started : (is_number u.started f.group ≡ true) × ((is_synced c u f.group && (is_number u.joined ss && ((i.us == id.site) && (is_fresh && stepped)))) ≡ true)
    started = both_parts (is_number u.started f.group) (is_synced c u f.group && (is_number u.joined ss && ((i.us == id.site) && (is_fresh && stepped)))) h

    served : (is_synced c u f.group ≡ true) × ((is_number u.joined ss && ((i.us == id.site) && (is_fresh && stepped))) ≡ true)
    served = both_parts (is_synced c u f.group) (is_number u.joined ss && ((i.us == id.site) && (is_fresh && stepped))) started.1

    there : (is_number u.joined ss ≡ true) × (((i.us == id.site) && (is_fresh && stepped)) ≡ true)
    there = both_parts (is_number u.joined ss) ((i.us == id.site) && (is_fresh && stepped)) served.1

    us : ((i.us == id.site) ≡ true) × ((is_fresh && stepped) ≡ true)
    us = both_parts (i.us == id.site) (is_fresh && stepped) there.1

    fresh : (is_fresh ≡ true) × (stepped ≡ true)
    fresh = both_parts is_fresh stepped us.1

    it : Caller p id (λ k. is_in k.epoch u.id && (asks_open c p request m f k && passes k))
    it = caller c before p a id (λ k. is_in k.epoch u.id && (asks_open c p request m f k && passes k)) fresh.1

    inside : (is_in it.call.epoch u.id ≡ true) × ((asks_open c p request m f it.call && passes it.call) ≡ true)
    inside = both_parts (is_in it.call.epoch u.id) (asks_open c p request m f it.call && passes it.call) it.so

    asked : (asks_open c p request m f it.call ≡ true) × (passes it.call ≡ true)
    asked = both_parts (asks_open c p request m f it.call) (passes it.call) inside.1

    asked_placed : (is_none (new.open_refusal c p u it.call m f) ≡ true) × (new.is_placed c p u it.call m f stamp ss ≡ true)
    asked_placed = both_parts (is_none (new.open_refusal c p u it.call m f)) (new.is_placed c p u it.call m f stamp ss) asked.1

    site : Within id.site
    site = site_of c before p few a id it.call it.found

    unrefused : is_none (old.open_refusal (history c before) t m id f) ≡ true
    unrefused = ap is_none (sym (refusal_is c before p a e m f id it.call it.found site.low site.high)) ∙ asked_placed.0

pub back_refuse : (c : Config) (before : Trace) (p : Past) (e : EpochId) (id : CallId) (request : ℕ) (i : Serial) (m : Mode) (f : FileId) (why : Refusal) → c.sites ≤ sites_max → Agrees c before p → may_follow c p (says.Refuse e id request i m f why) ≡ true → MayRefuse c before e id request m f why
back_refuse c before p e id request i m f why few a h = record {
  opens = open_back c before p a e id request m f it.call it.found inside.0 asked.0 served.0;
  gives = both t.started (is_unnumbered m f && refuses (history c before) t id m f why (old.open_refusal (history c before) t m id f)) (sym (a.trees.started e f.group) ∙ started.0)
      (both (is_unnumbered m f) (refuses (history c before) t id m f why (old.open_refusal (history c before) t m id f)) (sym (or_cond (state.is_make m) (f.ino == 0)) ∙ numbered.0)
      (sym (refused_is c before p a e m f why id it.call it.found (site_of c before p few a id it.call it.found)) ∙ asked.1));
}
  where
    t : state.TreeState
    t = tree_of c e f.group before

    u : Epoch
    u = epoch_at p e

    unnumbered : Bool
    unnumbered = not (state.is_make m) || (f.ino == 0)

    stepped : Bool
    stepped = is_step_of p u id (λ k. asks_open c p request m f k && is_refused c p u m f why k)

    or_cond : (b d : Bool) → (not b || d) ≡ cond b d true
    or_cond true d = refl
    or_cond false d = refl

    started : (is_number u.started f.group ≡ true) × ((is_synced c u f.group && (unnumbered && stepped)) ≡ true)
    started = both_parts (is_number u.started f.group) (is_synced c u f.group && (unnumbered && stepped)) h

    served : (is_synced c u f.group ≡ true) × ((unnumbered && stepped) ≡ true)
    served = both_parts (is_synced c u f.group) (unnumbered && stepped) started.1

    numbered : (unnumbered ≡ true) × (stepped ≡ true)
    numbered = both_parts unnumbered stepped served.1

    it : Caller p id (λ k. is_in k.epoch u.id && (asks_open c p request m f k && is_refused c p u m f why k))
    it = caller c before p a id (λ k. is_in k.epoch u.id && (asks_open c p request m f k && is_refused c p u m f why k)) numbered.1

    inside : (is_in it.call.epoch u.id ≡ true) × ((asks_open c p request m f it.call && is_refused c p u m f why it.call) ≡ true)
    inside = both_parts (is_in it.call.epoch u.id) (asks_open c p request m f it.call && is_refused c p u m f why it.call) it.so

    asked : (asks_open c p request m f it.call ≡ true) × (is_refused c p u m f why it.call ≡ true)
    asked = both_parts (asks_open c p request m f it.call) (is_refused c p u m f why it.call) inside.1
