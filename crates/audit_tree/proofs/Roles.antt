-- Where the roles of a group are, by what the tables of sites tell.
use Rattle.std.proofs.Common.{◌≡◌, ℕ, ◌&&◌, Bool, true, false, cond, ◌∷◌, ◌++◌, length, filter, take, Option, None, Some, refl, sym, ap, ◌∙◌}
use Rattle.std.specs.Prelude.{nat_lt}
use Rattle.std.specs.List.{find}
use Rattle.std.specs.Option.{is_some, option_or}
use Rattle.locus_ids.specs.Sites.{has}
use Rattle.locus_ids.specs.declared.config.Config.{Config}
use Rattle.locus_ids.specs.declared.sites.Members.{Members}
use Rattle.locus_ids.specs.declared.sites.Sites.{Sites}
use Rattle.locus_ids.specs.declared.refusal.Refusal.TheVariants.{NoStorage}
use Rattle.trace_book.specs.declared.call.Call.{Call}
use Rattle.trace_book.specs.declared.call.Call.TheVariants as call
use Rattle.trace_book.specs.declared.call.OpenMode.TheVariants as how
use Rattle.tree_model.specs.Opening.{site_named}
use Rattle.tree_model.specs.Packs.{all_sites, has_pack, is_member, is_within, least_site, making_site_in, packs_of, sync_site, that_passes}
use Rattle.tree_model.specs.Working.{list_of}
use Rattle.promises.specs.Tree.{resolves_from}
use Rattle.audit_copies.proofs.of_past_laws.TreesLists.{first_only}
use Rattle.audit_tree.specs.Parts.{make_refusal_in, place_in, set_in, sync_in}

pub sync_so : (c : Config) (members : Members) (group : ℕ) (site : Option ℕ) → site ≡ sync_site c group (Some members) → list_of site ≡ sync_in c members group
sync_so c members group site is = ap list_of is ∙ sym (first_only (λ s. is_member members s && has_pack c group s) all_sites)

found_place : (q : ℕ → Bool) (own : ℕ) (s : Option ℕ) → find q (own ∷ list_of s ++ all_sites) ≡ option_or (that_passes q (Some own)) (option_or (that_passes q s) (least_site q))
found_place q own s = at (q own) ∙ ap (option_or (that_passes q (Some own))) (by_sync s)
  where
    at : (b : Bool) → cond b (Some own) (find q (list_of s ++ all_sites)) ≡ option_or (cond b (Some own) None) (find q (list_of s ++ all_sites))
    at true = refl
    at false = refl

    pass : (y : ℕ) (b : Bool) → cond b (Some y) (find q all_sites) ≡ option_or (cond b (Some y) None) (find q all_sites)
    pass y true = refl
    pass y false = refl

    by_sync : (o : Option ℕ) → find q (list_of o ++ all_sites) ≡ option_or (that_passes q o) (least_site q)
    by_sync None = refl
    by_sync (Some y) = pass y (q y)

pub place_so : (c : Config) (members : Members) (group own : ℕ) (words : Call) (set : Sites) (site : Option ℕ) → set ≡ set_in c group words → site ≡ making_site_in c group (Some members) own set → list_of site ≡ place_in c members group own words
place_so c members group own words set site same is =
    ap list_of (is ∙ ap (making_site_in c group (Some members) own) same ∙ sym (found_place q own (sync_site c group (Some members))))
    ∙ sym (first_only q (own ∷ list_of (sync_site c group (Some members)) ++ all_sites))
    ∙ ap (λ ys. take 1 (filter q (own ∷ ys ++ all_sites))) (sync_so c members group (sync_site c group (Some members)) refl)
  where
    q : ℕ → Bool
    q s = is_member members s && has (set_in c group words) s

positive : {X : Type 0} (o : Option X) → nat_lt 0 (length (list_of o)) ≡ is_some o
positive None = refl
positive (Some x) = refl

pub refused_so : (c : Config) (members : Members) (group own : ℕ) (words : Call) (set packs : Sites) (site : Option ℕ) (within there : Bool) → set ≡ set_in c group words → packs ≡ packs_of c group → list_of site ≡ place_in c members group own words
    → within ≡ is_within set packs → there ≡ is_some site → cond (within && there) None (Some NoStorage) ≡ make_refusal_in c members group own words
refused_so c members group own words set packs site within there s k p w t =
    ap (λ (b : Bool). cond (b && there) None (Some NoStorage)) (w ∙ ap (λ a. is_within a packs) s ∙ ap (is_within (set_in c group words)) k)
    ∙ ap (λ (b : Bool). cond (is_within (set_in c group words) (packs_of c group) && b) None (Some NoStorage)) (t ∙ sym (positive site) ∙ ap (λ ys. nat_lt 0 (length ys)) p)

pub named_so : (words : Call) (site : Option ℕ) → site ≡ site_named (Some words) → list_of site ≡ resolves_from words
named_so words site is = ap list_of is ∙ by words
  where
    by : (w : Call) → list_of (site_named (Some w)) ≡ resolves_from w
    by (call.Open path (how.Resolve s)) = refl
    by w = refl
