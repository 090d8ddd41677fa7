-- What stands of the past along a lawful trace of where files are: each version that a site has is of a group that it packs.
use Rattle.std.specs.Prelude.{ℕ, ◌≡◌, Bool, true, ◌&&◌, ◌||◌, nat_le, List, Some}
use Rattle.std.specs.List.{list_any, list_all}
use Rattle.locus_ids.specs.declared.config.Config.{Config}
use Rattle.trace_book.specs.Same.{same_call}
use Rattle.tree_model.specs.Opening.{sites_made}
use Rattle.tree_model.specs.Packs.{has_pack, is_within, packs_of}
use Rattle.promises.specs.Past.{CallSoFar, Copy, Epoch, Instance, Left, Making, Past, Site}
use Rattle.past_laws.specs.Made.{is_made}

-- the site has a pack of the group of each
abbrev pub packs_all : Config → ℕ → List Copy → Bool
packs_all c site vs = list_all (λ (v : Copy). has_pack c v.file.group site) vs

-- the making is for sites with a pack alone
abbrev pub is_fit : Config → Making → Bool
is_fit c m = is_within m.set (packs_of c m.file.group)

-- the call makes files for sites with a pack alone
abbrev pub makes_fit : Config → ℕ → CallSoFar → Bool
makes_fit c group k = is_within (sites_made (packs_of c group) (Some k.words)) (packs_of c group)

-- the instance is at a site with a pack; and its file is made, or its call makes it for such sites
abbrev pub is_seated : Config → List CallSoFar → List Making → Instance → Bool
is_seated c calls files x = has_pack c x.grant.file.group x.grant.ss
    && (is_made files x.grant.file || list_any (λ (k : CallSoFar). same_call k.id x.grant.call && makes_fit c x.grant.file.group k) calls)

abbrev pub is_of : Config → ℕ → Bool
is_of c site = nat_le 1 site && nat_le site c.sites

pub record ArePacked (c : Config) (p : Past) : Type 0 where
  pub held : list_all (λ (s : Site). packs_all c s.number s.held) p.sites ≡ true
  pub left : list_all (λ (t : Epoch). list_all (λ (l : Left). packs_all c l.site l.held) t.left) p.epochs ≡ true
  -- who joined is a site of the cluster
  pub joined : list_all (λ (t : Epoch). list_all (is_of c) t.joined) p.epochs ≡ true
  pub sets : list_all (is_fit c) p.files ≡ true
  pub opened : list_all (λ (t : Epoch). list_all (is_seated c p.calls p.files) t.opened) p.epochs ≡ true
