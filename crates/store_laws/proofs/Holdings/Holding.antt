-- What sites hold in an epoch, in the words of the laws.
use Rattle.std.proofs.Common.{◌≡◌, ℕ, ◌==◌, Bool, true, false, ◌&&◌, ◌||◌, cond, List, [], ◌∷◌, ◌++◌, Option, Some, None, refl, sym, ap, ◌∙◌, subst, ◌⊎◌, inl, inr}
use Rattle.std.specs.List.{find, list_any}
use Rattle.std.specs.Option.{is_none, option_map}
use Rattle.tree_laws.proofs.of_plain_facts.Numbers.{equal}
use Rattle.tree_laws.proofs.of_plain_facts.Tests.{and_first, and_second, true_false}
use Rattle.locus_ids.specs.declared.config.Config.{Config}
use Rattle.locus_ids.specs.declared.ids.EpochId.{EpochId}
use Rattle.locus_ids.specs.declared.ids.FileId.{FileId}
use Rattle.locus_ids.specs.declared.ids.Serial.{Serial}
use Rattle.locus_ids.specs.declared.ids.Stamp.{Stamp}
use Rattle.locus_ids.specs.declared.sites.Members.{Members}
use Rattle.trace_book.specs.Same.{same_epoch}
use Rattle.trace_book.specs.declared.record.Record.TheVariants as says
use Rattle.tree_laws.specs.of_the_run.Worlds.{Line}
use Rattle.tree_model.specs.declared.copy.HeldCopy.{HeldCopy}
use Rattle.tree_model.specs.declared.instance.Instance.{Instance}
use Rattle.tree_model.specs.Folds.{Trace}
use Rattle.tree_model.specs.Histories.{format_stamp, history}
use Rattle.tree_model.specs.Packs.{has_pack}
use Rattle.tree_model.specs.State.{copy_of, has_stamp, held_at, held_of, instance_in}
use Rattle.tree_model.specs.Tree.{candidates, entered, tree_of, with_root}
use Rattle.tree_laws.specs.of_lawful_trace.Lawful.{MayCome}
use Rattle.tree_laws.specs.of_lawful_trace.SiteRows.{MayJoin}
use Rattle.tree_laws.specs.of_lawful_trace.TreeRows.{granted_group}
use Rattle.tree_laws.specs.Following.{IsFollowed, RowsAreLawful}
use Rattle.tree_laws.specs.Instances.{IsKnown, held_in, instance_now}
use Rattle.tree_laws.specs.Printed.{entries}
use Rattle.tree_laws.specs.Tables.{IsAhead}
use Rattle.tree_laws.proofs.Rows.{followed_rows}
use Rattle.tree_laws.specs.Orders.Joining.{PacksAreOfSites}
use Rattle.tree_laws.proofs.Orders.Alone.{tree_named}
use Rattle.tree_laws.proofs.Orders.Knowing.{tree_config}
use Rattle.tree_laws.proofs.Orders.Joining.{no_pack_comes}
use Rattle.store_laws.specs.Holdings.Held.{IsBelowKept, IsKnownOrAhead, SitesHold, StandsOnHeld}
use Rattle.store_laws.proofs.Holdings.Ancestors.{KeptAbove}
use Rattle.store_laws.proofs.Holdings.Begun.{open_seat}
use Rattle.store_laws.proofs.Holdings.Copies.{copies_are, copy_after, copy_next}
use Rattle.store_laws.proofs.Holdings.Distinct.{found_own, open_group, open_now, rows_names_apart}
use Rattle.store_laws.proofs.Holdings.Known.{AheadAt, held_known, is_ahead}
use Rattle.store_laws.proofs.Holdings.Made.{CommitsAreNew, rows_made}
use Rattle.store_laws.proofs.Holdings.Packed.{PacksHold, copy_packed, held_packed}
use Rattle.store_laws.proofs.Holdings.Rising.{joined_or, known_kept}
use Rattle.store_laws.proofs.Holdings.Seats.{Seat}

pub sites_hold : (c : Config) (before : Trace) → PacksHold c before → SitesHold c before
sites_hold c before packs = record {
  now = λ e site f inside. (copies_are c before e f.group site f.ino).held_is inside;
  joined = λ e site f stamp k. (copies_are c before e f.group site f.ino).joined stamp k;
  packed = λ e site f stamp k. held_packed c before packs e f site stamp k;
}

pub stands_on_held : (c : Config) (trace : List Line) → IsFollowed c trace → (e : EpochId) (i : Serial) (x : Instance) → instance_now c trace e i ≡ Some x → StandsOnHeld c (entries trace) e x
stands_on_held c trace followed e i x k = record {
  joined = seat.joined;
  last_is = subst (λ (g : ℕ). x.work.last ≡ held_at (tree_of c e g (entries trace)) x.grant.ss x.grant.file.ino) (sym seat.group_is) seat.last_is;
  made = seat.made;
  reads = seat.reads;
}
  where
    seat : Seat e (granted_group (entries trace) e i) (entries trace) (tree_of c e (granted_group (entries trace) e i) (entries trace)) x
    seat = open_seat c trace followed e i x k

pub below_kept : (c : Config) (before : Trace) → RowsAreLawful c before → CommitsAreNew c before → (e : EpochId) (f : FileId) (stamp : Stamp) → has_stamp (candidates c before e f) stamp ≡ true → IsBelowKept c before e f stamp
below_kept c before rows new e f stamp k = over (known_kept c before rows new e f stamp k)
  where
    over : KeptAbove (history c before) (rows_made c before rows new) f (candidates c before e f) stamp → IsBelowKept c before e f stamp
    over w = record { top = w.top; is_kept = w.is_kept; above = w.above }

-- ---- who is ahead is open ----

pub some_found : {X : Type 0} (p : X → Bool) (xs : List X) → list_any p xs ≡ true → (x : X) × (find p xs ≡ Some x) × (p x ≡ true)
some_found p [] k = absurd (true_false (sym k))
some_found {X} p (x ∷ xs) k = at (p x) refl k (some_found p xs)
  where
    at : (b : Bool) → p x ≡ b → b || list_any p xs ≡ true → (list_any p xs ≡ true → (y : X) × (find p xs ≡ Some y) × (p y ≡ true)) → (y : X) × (cond b (Some x) (find p xs) ≡ Some y) × (p y ≡ true)
    at true e k later = (x, refl, e)
    at false e k later = later k

pub ahead_open : (c : Config) (trace : List Line) → IsFollowed c trace → (e : EpochId) (site : ℕ) (f : FileId) → AheadAt (tree_of c e f.group (entries trace)) site f.ino → IsAhead c trace e site f
ahead_open c trace followed e site f k = (let w = some_found (is_ahead site f.ino) (tree_of c e f.group (entries trace)).instances k in is w.0 w.1 w.2)
  where
    is : (x : Instance) → find (is_ahead site f.ino) (tree_of c e f.group (entries trace)).instances ≡ Some x → is_ahead site f.ino x ≡ true → IsAhead c trace e site f
    is x found passes = record {
      inst = x.grant.inst;
      at = x;
      open_at = record { found = now; place = equal x.grant.ss site (and_first (x.grant.ss == site) _ place) };
      file_is = (λ q. record { group = group_is q; ino = equal x.grant.file.ino f.ino (and_second (x.grant.ss == site) _ place) q });
      committed = and_second ((x.grant.ss == site) && (x.grant.file.ino == f.ino)) _ passes;
    }
      where
        place : (x.grant.ss == site) && (x.grant.file.ino == f.ino) ≡ true
        place = and_first ((x.grant.ss == site) && (x.grant.file.ino == f.ino)) _ passes

        named : instance_in (tree_of c e f.group (entries trace)) x.grant.inst ≡ Some x
        named = found_own (is_ahead site f.ino) (tree_of c e f.group (entries trace)).instances x (rows_names_apart c (entries trace) (followed_rows c trace followed) e f.group) found

        now : instance_now c trace e x.grant.inst ≡ Some x
        now = open_now c trace followed e f.group x.grant.inst x named

        group_is : x.grant.file.group ≡ f.group
        group_is = (open_seat c trace followed e x.grant.inst x now).group_is ∙ open_group c trace followed e f.group x.grant.inst x named

pub known_or_ahead : (c : Config) (trace : List Line) → IsFollowed c trace → PacksHold c (entries trace) → (e : EpochId) (site : ℕ) (f : FileId) (stamp : Stamp) → held_in c (entries trace) e site f ≡ Some stamp → IsKnownOrAhead c trace e site f stamp
known_or_ahead c trace followed packs e site f stamp k = over (held_known c trace followed packs e site f stamp k)
  where
    over : IsKnown c trace e f stamp ⊎ AheadAt (tree_of c e f.group (entries trace)) site f.ino → IsKnownOrAhead c trace e site f stamp
    over (inl known) = inl known
    over (inr ahead) = inr (ahead_open c trace followed e site f ahead)

-- ---- joins after the start ----

-- a site that joins once the group has started brings nothing of it
pub late_brings_nothing : (c : Config) (before : Trace) → PacksAreOfSites c → RowsAreLawful c before → PacksHold c before → (line : ℕ) (z : ℕ) (d : EpochId) (m : Members) → MayCome c before (says.Join z d m) →
    (e : EpochId) (site : ℕ) (f : FileId) → (tree_of c e f.group before).started ≡ true → held_in c (record { line = line; what = says.Join z d m } ∷ before) e site f ≡ held_in c before e site f
late_brings_nothing c before few rows packs line z d m may e site f started = ap held_of (copy_next (history c before) (tree_of c e f.group before) (says.Join z d m) site f.ino) ∙ over (joined_or (tree_of c e f.group before) d z site f.ino)
  where
    named : (tree_of c e f.group before).epoch ≡ e
    named = (tree_named c e f.group before).0

    unpacked : d ≡ (tree_of c e f.group before).epoch → has_pack c f.group z ≡ false
    unpacked p = no_pack_comes c before few rows e f.group z m started (subst (λ (y : EpochId). MayJoin c before z y m) (p ∙ named) may)

    none : (o : Option HeldCopy) → copy_of (tree_of c e f.group before).copies z f.ino ≡ o → has_pack c f.group z ≡ false → o ≡ None
    none None k q = refl
    none (Some x) k q = absurd (true_false (sym (copy_packed c before packs e f z x k) ∙ q))

    over : (held_of (copy_after (says.Join z d m) (tree_of c e f.group before) site f.ino) ≡ held_at (tree_of c e f.group before) site f.ino) ⊎ ((d ≡ (tree_of c e f.group before).epoch) × (z ≡ site)) → held_of (copy_after (says.Join z d m) (tree_of c e f.group before) site f.ino) ≡ held_at (tree_of c e f.group before) site f.ino
    over (inl same) = same
    over (inr p) = at (same_epoch d (tree_of c e f.group before).epoch)
      where
        -- nothing is there, before and after
        rooted : (b : Bool) → has_pack (tree_of c e f.group before).config (tree_of c e f.group before).group z ≡ b → b ≡ false → copy_of (with_root (tree_of c e f.group before) z) z f.ino ≡ copy_of (tree_of c e f.group before).copies z f.ino
        rooted b k q = ap (λ (y : Bool). copy_of (cond (y && is_none (copy_of (tree_of c e f.group before).copies z 1)) ((tree_of c e f.group before).copies ++ record { site = z; ino = 1; now = format_stamp; held = None } ∷ []) (tree_of c e f.group before).copies) z f.ino) (k ∙ q)

        pack_is : has_pack (tree_of c e f.group before).config (tree_of c e f.group before).group z ≡ false
        pack_is = ap (λ (y : Config). has_pack y (tree_of c e f.group before).group z) (tree_config c e f.group before) ∙ (ap (λ (g : ℕ). has_pack c g z) (tree_named c e f.group before).1 ∙ unpacked p.0)

        empty : copy_of (tree_of c e f.group before).copies z f.ino ≡ None
        empty = none (copy_of (tree_of c e f.group before).copies z f.ino) refl (unpacked p.0)

        here : held_of (option_map (entered z) (copy_of (with_root (tree_of c e f.group before) z) z f.ino)) ≡ held_at (tree_of c e f.group before) z f.ino
        here = ap (λ (o : Option HeldCopy). held_of (option_map (entered z) o)) (rooted (has_pack (tree_of c e f.group before).config (tree_of c e f.group before).group z) refl pack_is ∙ empty) ∙ sym (ap held_of empty)

        at : (b : Bool) → held_of (cond b (option_map (entered z) (copy_of (with_root (tree_of c e f.group before) z) site f.ino)) (copy_of (tree_of c e f.group before).copies site f.ino)) ≡ held_at (tree_of c e f.group before) site f.ino
        at true = subst (λ (y : ℕ). held_of (option_map (entered z) (copy_of (with_root (tree_of c e f.group before) z) y f.ino)) ≡ held_at (tree_of c e f.group before) y f.ino) p.1 here
        at false = refl
