-- Versions that are in no slot stay so by a commit, and fit each state.
use Rattle.std.proofs.Common.{◌≡◌, ℕ, Bool, true, false, cond, List, [], ◌∷◌, Option, Some, None, filter, nat_le, ◌&&◌, unwrap_or, refl, sym, subst}
use Rattle.std.specs.List.{AllByRecursion}
use Rattle.std.specs.Option.{option_map}
use Rattle.page_bytes.specs.declared.ids.PageId.{PageId}
use Rattle.page_bytes.specs.declared.ids.Space.{Space}
use Rattle.page_bytes.specs.declared.lists.PageChange.{PageChange}
use Rattle.page_bytes.specs.Changes.{change_of}
use Rattle.page_versions.specs.declared.version.Version.{Version}
use Rattle.page_versions.specs.declared.version.Image.{Image}
use Rattle.page_versions.specs.declared.version.Image.TheVariants.{Resident, Slot, Absent}
use Rattle.page_versions.specs.Chains.{version_at, is_needed, needed}
use Rattle.page_versions.specs.Kept.{Kept, chain_of}
use Rattle.page_versions.specs.Staging.{staged_image, staged_chain, with_image as with_staged, is_dropped, has_versions}
use Rattle.slot_store.specs.declared.state.SlotState.{SlotState}
use Rattle.slot_store.specs.Planned.{FitsVersions, image_at}
use Rattle.store_tests.specs.Resident.{IsOut}

abbrev pub AllOut : List Version → Type 0
AllOut chain = AllByRecursion (λ (v : Version). IsOut v.image) chain

out_filter : (test : Version → Bool) (vs : List Version) → AllOut vs → AllOut (filter test vs)
out_filter test [] out = tt
out_filter test (v ∷ vs) out = one (test v) (out_filter test vs out.1)
  where
    one : (b : Bool) → AllOut (filter test vs) → AllOut (cond b (v ∷ filter test vs) (filter test vs))
    one true rest = (out.0, rest)
    one false rest = rest

out_staged : (n : ℕ) (change : Option (Option (List ℕ))) (gone : Bool) (chain : List Version) → AllOut chain → AllOut (with_staged n (staged_image change gone) chain)
out_staged n None true chain out = (tt, out)
out_staged n None false chain out = out
out_staged n (Some None) gone chain out = (tt, out)
out_staged n (Some (Some page)) gone chain out = (tt, out)

-- what was staged and is published is in no slot
pub out_published : (k mid new : Kept) (n : ℕ) (changes : List PageChange) (dropped : List Space) → ((id : PageId) → AllOut (chain_of k id))
    → ((id : PageId) → chain_of mid id ≡ staged_chain n changes dropped id (chain_of k id))
    → ((id : PageId) → chain_of new id ≡ needed None mid.snapshots (chain_of mid id)) → (id : PageId) → AllOut (chain_of new id)
out_published k mid new n changes dropped out staged cut id =
    subst AllOut (sym (cut id)) (out_filter (is_needed None mid.snapshots (chain_of mid id)) (chain_of mid id)
    (subst AllOut (sym (staged id))
    (out_staged n (change_of changes id) (is_dropped dropped id.space && has_versions (chain_of k id)) (chain_of k id) (out id))))

-- the version at a commit is one of the chain
out_at : (commit : ℕ) (chain : List Version) → AllOut chain → (v : Version) → version_at chain commit ≡ Some v → IsOut v.image
out_at commit [] out v is = absurd (cc is)
out_at commit (w ∷ ws) out v is = one (nat_le w.commit commit) is (λ same. out_at commit ws out.1 v same)
  where
    one : (b : Bool) → cond b (Some w) (version_at ws commit) ≡ Some v → (version_at ws commit ≡ Some v → IsOut v.image) → IsOut v.image
    one true same later = subst (λ o. IsOut (unwrap_or o v).image) same out.0
    one false same later = later same

-- versions in no slot fit each state
pub fits_out : (state : SlotState) (k : Kept) (commit : ℕ) → ((id : PageId) → AllOut (chain_of k id)) → FitsVersions state k commit
fits_out state k commit out = record {
  known = λ id s is. absurd (never id s is);
  apart = λ a b s is other. absurd (never a s is);
}
  where
    no_slot : (o : Option Version) (s : ℕ) → ((v : Version) → o ≡ Some v → IsOut v.image) → option_map (λ v. v.image) o ≡ Some (Slot s) → ⊥
    no_slot None s all is = absurd (cc is)
    no_slot (Some v) s all is = one v.image (all v refl) is
      where
        one : (image : Image) → IsOut image → Some image ≡ Some (Slot s) → ⊥
        one (Resident page) free same = absurd (cc same)
        one (Slot slot) free same = absurd free
        one Absent free same = absurd (cc same)

    never : (id : PageId) (s : ℕ) → image_at k commit id ≡ Some (Slot s) → ⊥
    never id s is = no_slot (version_at (chain_of k id) commit) s (λ v there. out_at commit (chain_of k id) (out id) v there) is
