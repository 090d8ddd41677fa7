-- Where files are, of the parts of the past alone; and what becomes of it by changes of a part.
use Rattle.std.proofs.Common.{◌≡◌, ℕ, ◌≤◌, ◌==◌, ◌||◌, ◌&&◌, nat_le, not, Bool, true, false, cond, List, [], ◌∷◌, filter, refl, sym, ap, subst, ◌∙◌, arith}
use Rattle.std.proofs.lemmas.Bool.Decides.{nat_tests}
use Rattle.std.specs.List.{list_any, list_all}
use Rattle.locus_ids.specs.Sizes.{sites_max}
use Rattle.locus_ids.specs.Sites.{has}
use Rattle.locus_ids.specs.declared.config.Config.{Config}
use Rattle.locus_ids.specs.declared.sites.Sites.{Sites}
use Rattle.locus_ids.specs.declared.ids.EpochId.{EpochId}
use Rattle.trace_book.specs.Same.{same_call}
use Rattle.locus_ids.specs.declared.ids.Kind.TheVariants.{Dir}
use Rattle.commit_graph.specs.Vectors.{numbers_from}
use Rattle.call_rules.specs.Walks.{root_of}
use Rattle.tree_model.specs.Histories.{format_stamp}
use Rattle.tree_model.specs.Epochs.{is_in}
use Rattle.tree_model.specs.Packs.{all_sites, has_pack, is_within, packs_of}
use Rattle.promises.specs.Past.{CallSoFar, Copy, Epoch, Instance, Left, Making, Past, Site, copies_in, epoch_at, first_or, first_site, groups, no_site, nothing_yet, site_at, unformed}
use Rattle.promises.specs.After.{change, is_epoch}
use Rattle.past_laws.specs.Made.{is_made}
use Rattle.past_laws.specs.Packed.{ArePacked, is_fit, is_of, is_seated, makes_fit, packs_all}
use Rattle.past_laws.proofs.Names.{both, both_parts, false_true, number_eq}
use Rattle.past_laws.proofs.Changing.{Finds, any_changed, any_finds}
use Rattle.past_laws.proofs.Alls.{all_changed, all_filtered, all_first, all_first_or, all_found, all_images, all_mapped, all_more, all_weaker}
use Rattle.past_laws.proofs.MadeParts.{MoreFiles}
use Rattle.past_laws.proofs.Sites.{among_numbers}
use Rattle.past_laws.proofs.SitesSay.{has_number}

pub record PackedSay (c : Config) (sites : List Site) (epochs : List Epoch) (calls : List CallSoFar) (files : List Making) : Type 0 where
  pub held : list_all (λ (s : Site). packs_all c s.number s.held) sites ≡ true
  pub left : list_all (λ (t : Epoch). list_all (λ (l : Left). packs_all c l.site l.held) t.left) epochs ≡ true
  pub joined : list_all (λ (t : Epoch). list_all (is_of c) t.joined) epochs ≡ true
  pub sets : list_all (is_fit c) files ≡ true
  pub opened : list_all (λ (t : Epoch). list_all (is_seated c calls files) t.opened) epochs ≡ true

pub packed_of_past : (c : Config) (p : Past) → ArePacked c p → PackedSay c p.sites p.epochs p.calls p.files
packed_of_past c p a = record { held = a.held; left = a.left; joined = a.joined; sets = a.sets; opened = a.opened }

pub packed_as_said : (c : Config) (p : Past) → PackedSay c p.sites p.epochs p.calls p.files → ArePacked c p
packed_as_said c p a = record { held = a.held; left = a.left; joined = a.joined; sets = a.sets; opened = a.opened }

-- Sites of a set.

-- a site of the one set is one of the other
pub has_within : (a b : Sites) (site : ℕ) → is_within a b ≡ true → 1 ≤ site → site ≤ sites_max → has a site ≡ true → has b site ≡ true
has_within a b site h low high own = over (any_finds (λ m. m == site) all_sites (among_numbers site 1 sites_max low (omega (arith, high))))
  where
    both_have : (x y : Bool) → (not x || y) ≡ true → x ≡ true → y ≡ true
    both_have true y k l = k
    both_have false y k l = false_true l

    over : Finds (λ m. m == site) all_sites → has b site ≡ true
    over it = both_have (has a site) (has b site) (subst (λ n. (not (has a n) || has b n) ≡ true) (number_eq it.one site it.passes) (all_found (λ n. not (has a n) || has b n) (λ m. m == site) all_sites it.one it.found h)) own

pub of_bounds : (c : Config) (site : ℕ) → c.sites ≤ sites_max → is_of c site ≡ true → (1 ≤ site) × (site ≤ sites_max)
of_bounds c site few h =
    let parts = both_parts (nat_le 1 site) (nat_le site c.sites) h in
    (least parts.0, most parts.1)
  where
    least : nat_le 1 site ≡ true → 1 ≤ site
    least e = grind (arith, nat_tests)

    most : nat_le site c.sites ≡ true → site ≤ sites_max
    most e = let k : site ≤ c.sites = grind (arith, nat_tests) in omega (arith, few, k)

-- What a site has, now and in an epoch.

pub site_packs : (c : Config) (p : Past) (site : ℕ) → ArePacked c p → packs_all c site (site_at p site).held ≡ true
site_packs c p site a = found p.sites a.held
  where
    found : (ss : List Site) → list_all (λ (s : Site). packs_all c s.number s.held) ss ≡ true → packs_all c site (first_or no_site (has_number site) ss).held ≡ true
    found [] h = refl
    found (s ∷ ss) h = let parts = all_first (λ (s : Site). packs_all c s.number s.held) s ss h in over parts.0 (found ss parts.1) (s.number == site) refl
      where
        over : packs_all c s.number s.held ≡ true → packs_all c site (first_or no_site (has_number site) ss).held ≡ true → (b : Bool) → (s.number == site) ≡ b → packs_all c site (cond b s (first_or no_site (has_number site) ss)).held ≡ true
        over own later true e = subst (λ n. packs_all c n s.held ≡ true) (number_eq s.number site e) own
        over own later false e = later

left_packs : (c : Config) (site : ℕ) (ls : List Left) → list_all (λ (l : Left). packs_all c l.site l.held) ls ≡ true → packs_all c site (first_or (record { site = site; held = [] }) (λ (l : Left). l.site == site) ls).held ≡ true
left_packs c site [] h = refl
left_packs c site (l ∷ ls) h = let parts = all_first (λ (l : Left). packs_all c l.site l.held) l ls h in over parts.0 (left_packs c site ls parts.1) (l.site == site) refl
  where
    over : packs_all c l.site l.held ≡ true → packs_all c site (first_or (record { site = site; held = [] }) (λ (l : Left). l.site == site) ls).held ≡ true → (b : Bool) → (l.site == site) ≡ b → packs_all c site (cond b l (first_or (record { site = site; held = [] }) (λ (l : Left). l.site == site) ls)).held ≡ true
    over own later true e = subst (λ n. packs_all c n l.held ≡ true) (number_eq l.site site e) own
    over own later false e = later

pub epoch_packs : (c : Config) (p : Past) (e : EpochId) (site : ℕ) → ArePacked c p → packs_all c site (copies_in p (epoch_at p e) site) ≡ true
epoch_packs c p e site a = over (is_in (site_at p site).epoch (epoch_at p e).id)
  where
    over : (b : Bool) → packs_all c site (cond b (site_at p site).held (first_or (record { site = site; held = [] }) (λ (l : Left). l.site == site) (epoch_at p e).left).held) ≡ true
    over true = site_packs c p site a
    over false = left_packs c site (epoch_at p e).left (all_first_or (λ (t : Epoch). list_all (λ (l : Left). packs_all c l.site l.held) t.left) (is_epoch e) (unformed e) p.epochs refl a.left)

-- Parts that are changed.

pub sites_kept : (c : Config) (files : List Making) (epochs : List Epoch) (calls : List CallSoFar) (sites : List Site) (which : Site → Bool) (f : Site → Site) → ((s : Site) → (f s).number ≡ s.number) → ((s : Site) → (f s).held ≡ s.held) → PackedSay c sites epochs calls files → PackedSay c (change which f sites) epochs calls files
sites_kept c files epochs calls sites which f number keep a = record {
  held = all_changed (λ (s : Site). packs_all c s.number s.held) which f (λ s e k. ap (λ n. packs_all c n (f s).held) (number s) ∙ (ap (packs_all c s.number) (keep s) ∙ k)) sites a.held;
  left = a.left;
  joined = a.joined;
  sets = a.sets;
  opened = a.opened;
}

-- a site has a version more of a group that it packs
pub site_has : (c : Config) (files : List Making) (epochs : List Epoch) (calls : List CallSoFar) (sites : List Site) (site : ℕ) (new : Copy) (kept : Copy → Bool) → has_pack c new.file.group site ≡ true → PackedSay c sites epochs calls files → PackedSay c (change (has_number site) (λ (s : Site). record s { held = new ∷ filter kept s.held }) sites) epochs calls files
site_has c files epochs calls sites site new kept packed a = record {
  held = all_changed (λ (s : Site). packs_all c s.number s.held) (has_number site) (λ (s : Site). record s { held = new ∷ filter kept s.held })
      (λ s e k. all_more (λ (v : Copy). has_pack c v.file.group s.number) new (filter kept s.held) (subst (λ n. has_pack c new.file.group n ≡ true) (sym (number_eq s.number site e)) packed) (all_filtered (λ (v : Copy). has_pack c v.file.group s.number) kept s.held k)) sites a.held;
  left = a.left;
  joined = a.joined;
  sets = a.sets;
  opened = a.opened;
}

-- epochs of which what is said here stands again
pub epochs_again : (c : Config) (files : List Making) (sites : List Site) (calls : List CallSoFar) (ts : List Epoch) (which : Epoch → Bool) (f : Epoch → Epoch)
    → ((t : Epoch) → which t ≡ true → list_all (λ (l : Left). packs_all c l.site l.held) t.left ≡ true → list_all (λ (l : Left). packs_all c l.site l.held) (f t).left ≡ true)
    → ((t : Epoch) → which t ≡ true → list_all (is_of c) t.joined ≡ true → list_all (is_of c) (f t).joined ≡ true)
    → ((t : Epoch) → which t ≡ true → list_all (is_seated c calls files) t.opened ≡ true → list_all (is_seated c calls files) (f t).opened ≡ true)
    → PackedSay c sites ts calls files → PackedSay c sites (change which f ts) calls files
epochs_again c files sites calls ts which f left joined opened a = record {
  held = a.held;
  left = all_changed (λ (t : Epoch). list_all (λ (l : Left). packs_all c l.site l.held) t.left) which f left ts a.left;
  joined = all_changed (λ (t : Epoch). list_all (is_of c) t.joined) which f joined ts a.joined;
  sets = a.sets;
  opened = all_changed (λ (t : Epoch). list_all (is_seated c calls files) t.opened) which f opened ts a.opened;
}

-- instances that keep what they were granted
pub instances_seated : (c : Config) (calls : List CallSoFar) (files : List Making) (q : Instance → Bool) (g : Instance → Instance) → ((x : Instance) → (g x).grant ≡ x.grant) → (xs : List Instance) → list_all (is_seated c calls files) xs ≡ true → list_all (is_seated c calls files) (change q g xs) ≡ true
instances_seated c calls files q g grant xs h = all_changed (is_seated c calls files) q g (λ x e k. ap (λ n. has_pack c n.file.group n.ss && (is_made files n.file || list_any (λ (k : CallSoFar). same_call k.id n.call && makes_fit c n.file.group k) calls)) (grant x) ∙ k) xs h

later : (x y z : Bool) → (y ≡ true → z ≡ true) → (x || y) ≡ true → (x || z) ≡ true
later true y z f h = refl
later false y z f h = f h

-- calls that keep their names and words, and one more
pub calls_kept : (c : Config) (files : List Making) (sites : List Site) (ts : List Epoch) (calls : List CallSoFar) (which : CallSoFar → Bool) (f : CallSoFar → CallSoFar) → ((k : CallSoFar) → (f k).id ≡ k.id) → ((k : CallSoFar) → (f k).words ≡ k.words) → PackedSay c sites ts calls files → PackedSay c sites ts (change which f calls) files
calls_kept c files sites ts calls which f id words a = record {
  held = a.held;
  left = a.left;
  joined = a.joined;
  sets = a.sets;
  opened = all_weaker (λ (t : Epoch). list_all (is_seated c calls files) t.opened) (λ (t : Epoch). list_all (is_seated c (change which f calls) files) t.opened)
      (λ t h. all_weaker (is_seated c calls files) (is_seated c (change which f calls) files) again t.opened h) ts a.opened;
}
  where
    again : (x : Instance) → is_seated c calls files x ≡ true → is_seated c (change which f calls) files x ≡ true
    again x h =
        let parts = both_parts (has_pack c x.grant.file.group x.grant.ss) _ h in
        both (has_pack c x.grant.file.group x.grant.ss) _ parts.0
        (later (is_made files x.grant.file) _ _ (λ k. any_changed (λ (k : CallSoFar). same_call k.id x.grant.call && makes_fit c x.grant.file.group k) which f
        (λ k e. ap (λ i. same_call i x.grant.call && makes_fit c x.grant.file.group (f k)) (id k) ∙ ap (λ w. same_call k.id x.grant.call && makes_fit c x.grant.file.group (record k { words = w })) (words k)) calls ∙ k) parts.1)

pub call_more : (c : Config) (files : List Making) (sites : List Site) (ts : List Epoch) (calls : List CallSoFar) (k : CallSoFar) → PackedSay c sites ts calls files → PackedSay c sites ts (k ∷ calls) files
call_more c files sites ts calls k a = record {
  held = a.held;
  left = a.left;
  joined = a.joined;
  sets = a.sets;
  opened = all_weaker (λ (t : Epoch). list_all (is_seated c calls files) t.opened) (λ (t : Epoch). list_all (is_seated c (k ∷ calls) files) t.opened)
      (λ t h. all_weaker (is_seated c calls files) (is_seated c (k ∷ calls) files) again t.opened h) ts a.opened;
}
  where
    second : (x y : Bool) → y ≡ true → (x || y) ≡ true
    second true y h = refl
    second false y h = h

    again : (x : Instance) → is_seated c calls files x ≡ true → is_seated c (k ∷ calls) files x ≡ true
    again x h =
        let parts = both_parts (has_pack c x.grant.file.group x.grant.ss) _ h in
        both (has_pack c x.grant.file.group x.grant.ss) _ parts.0
        (later (is_made files x.grant.file) _ _ (λ l. second (same_call k.id x.grant.call && makes_fit c x.grant.file.group k) _ l) parts.1)

-- more files are made, for sites with a pack
pub files_more : (c : Config) (old new : List Making) (sites : List Site) (ts : List Epoch) (calls : List CallSoFar) → MoreFiles old new → list_all (is_fit c) new ≡ true → PackedSay c sites ts calls old → PackedSay c sites ts calls new
files_more c old new sites ts calls more fit a = record {
  held = a.held;
  left = a.left;
  joined = a.joined;
  sets = fit;
  opened = all_weaker (λ (t : Epoch). list_all (is_seated c calls old) t.opened) (λ (t : Epoch). list_all (is_seated c calls new) t.opened)
      (λ t h. all_weaker (is_seated c calls old) (is_seated c calls new) again t.opened h) ts a.opened;
}
  where
    first : (x y z : Bool) → (x ≡ true → z ≡ true) → (x || y) ≡ true → (z || y) ≡ true
    first true y z f h = ap (λ b. b || y) (f refl)
    first false y true f h = refl
    first false y false f h = h

    again : (x : Instance) → is_seated c calls old x ≡ true → is_seated c calls new x ≡ true
    again x h =
        let parts = both_parts (has_pack c x.grant.file.group x.grant.ss) _ h in
        both (has_pack c x.grant.file.group x.grant.ss) _ parts.0 (first (is_made old x.grant.file) _ (is_made new x.grant.file) (more x.grant.file) parts.1)

-- Before the first record.

own_filter : {X : Type 0} (q : X → Bool) (xs : List X) → list_all q (filter q xs) ≡ true
own_filter q [] = refl
own_filter {X} q (x ∷ xs) = over (q x) refl (own_filter q xs)
  where
    over : (b : Bool) → q x ≡ b → list_all q (filter q xs) ≡ true → list_all q (cond b (x ∷ filter q xs) (filter q xs)) ≡ true
    over true h further = all_more q x (filter q xs) h further
    over false h further = further

all_pass : {X : Type 0} (q : X → Bool) → ((x : X) → q x ≡ true) → (xs : List X) → list_all q xs ≡ true
all_pass q each [] = refl
all_pass q each (x ∷ xs) = all_more q x xs (each x) (all_pass q each xs)

within_own : (a : Sites) → is_within a a ≡ true
within_own a = all_pass (λ site. not (has a site) || has a site) (λ site. own (has a site)) all_sites
  where
    own : (x : Bool) → (not x || x) ≡ true
    own true = refl
    own false = refl

pub packed_begin : (c : Config) → ArePacked c (nothing_yet c)
packed_begin c = record {
  held = all_mapped (λ (s : Site). packs_all c s.number s.held) (first_site c) roots (numbers_from 1 c.sites);
  left = refl;
  joined = refl;
  sets = all_mapped (is_fit c) (λ group. record { file = root_of group; kind = Dir; set = packs_of c group }) (λ group. within_own (packs_of c group)) groups;
  opened = refl;
}
  where
    roots : (n : ℕ) → packs_all c n (first_site c n).held ≡ true
    roots n = all_images (λ (v : Copy). has_pack c v.file.group n) (λ group. record { file = root_of group; stamp = format_stamp }) (filter (λ group. has_pack c group n) groups) (own_filter (λ group. has_pack c group n) groups)
