-- A text that is written part by part, and a listing of the bytes gathered: what is known of the output.
use Rattle.std.proofs.Common.{◌≡◌, ℕ, ◌+◌, ◌-◌, ◌≤◌, List, [], ◌++◌, length, take, drop, IfSome, Some, None, sym, refl, ap, ◌∙◌, subst, arith, length-take-le, take_all, take-take, take_at, lt-ltb}
use Rattle.std.proofs.Math.Seq.{take-add}
use Rattle.std.specs.declared.option.Option.{Option}
use Rattle.std.specs.Io.KnownBytes.{Keeps, Appends}
use Rattle.std.proofs.KnownBytes.{Appends-nil, Appends-trans, Appends-kept}
use native.Mathlib.Decide.{dec_le}
use Rattle.digits.proofs.StoreLaws.{stored_start}
use Rattle.capture.specs.declared.Dialect.{Dialect}
use Rattle.listing.specs.Internal.{Puts}
use Rattle.listing.specs.Listing.{listing, max_input}
use Rattle.listing.proofs.PutLaws.{puts_length}
use Rattle.listing_io.specs.Known.{Lists, ListsFirst}

-- -- Writes

-- what stayed, and then grew
pub kept_appends : (a b c : Option (List ℕ)) (bs : List ℕ) → Keeps a b → Appends b c bs → Appends a c bs
kept_appends None b c bs k p = tt
kept_appends (Some x) None c bs k p = absurd k
kept_appends (Some x) (Some y) None bs k p = absurd p
kept_appends (Some x) (Some y) (Some z) bs k p = p ∙ ap (λ (l : List ℕ). l ++ bs) k

-- no byte was written
pub kept_none : (a b : Option (List ℕ)) → Keeps a b → Appends a b []
kept_none a b k = Appends-kept a a b [] (Appends-nil a) k

-- one more part of a text
pub part_more : (a b c : Option (List ℕ)) (text : List ℕ) (at taken : ℕ) → Appends a b (take at text)
    → Appends b c (take taken (take (length text - at) (drop at text))) → at + taken ≤ length text → Appends a c (take (at + taken) text)
part_more a b c text at taken p q h =
    let t : take taken (take (length text - at) (drop at text)) ≡ take taken (drop at text) =
    take-take taken (length text - at) (drop at text) (omega arith) in
    let front : take (at + taken) text ≡ take at text ++ take taken (drop at text) = take-add at taken text in
    subst (Appends a c) (ap (λ (l : List ℕ). take at text ++ l) t ∙ sym front)
    (Appends-trans a b c (take at text) (take taken (take (length text - at) (drop at text))) p q)

-- -- The listing of the bytes gathered

-- a text that was put at the start of a buffer is its first bytes
pub put_front : {text out after : List ℕ} {end : ℕ} → Puts text out 0 end after → end ≤ length after → take end after ≡ text
put_front {text} {out} {after} {end} p h =
    let s = p.leaves ∙ stored_start out text (omega (arith, p.ends, puts_length p)) in
    ap (take end) s ∙ take_at text _ end (omega (arith, p.ends))

-- one byte more than is listed is as good as all
pub listing_room : (d : Dialect) (xs : List ℕ) → listing d (take 65537 xs) ≡ listing d xs
unfolding listing
listing_room d xs = go (dec_le (length xs) 65537)
  where
    go : Dec (length xs ≤ 65537) → listing d (take 65537 xs) ≡ listing d xs
    go (yes h) = ap (listing d) (take_all 65537 xs h)
    go (no h) =
        let n : length (take 65537 xs) ≡ 65537 = length-take-le 65537 xs (omega arith) in
        rw (lt-ltb max_input (length (take 65537 xs)) (omega arith), lt-ltb max_input (length xs) (omega arith)) refl

-- so the bytes gathered have the listing of the input
pub listing_gathered : (d : Dialect) (input : Option (List ℕ)) (buffer : List ℕ) (size : ℕ)
    → IfSome input (λ xs. take size buffer ≡ take (length buffer) xs) → 65537 ≡ length buffer
    → IfSome input (λ xs. listing d (take size buffer) ≡ listing d xs)
listing_gathered d None buffer size h e = tt
listing_gathered d (Some xs) buffer size h e =
    ap (listing d) (h ∙ ap (λ (k : ℕ). take k xs) (sym e)) ∙ listing_room d xs

-- the text of these bytes is written
pub lists_whole : (d : Dialect) (input old new : Option (List ℕ)) (bytes text : List ℕ)
    → IfSome input (λ xs. listing d bytes ≡ listing d xs) → text ≡ listing d bytes → Appends old new text → Lists d input old new
lists_whole d None old new bytes text h e p = tt
lists_whole d (Some xs) old new bytes text h e p = subst (Appends old new) (e ∙ h) p

-- only its first bytes
pub lists_first : (d : Dialect) (input old new : Option (List ℕ)) (bytes text : List ℕ) (n : ℕ)
    → IfSome input (λ xs. listing d bytes ≡ listing d xs) → text ≡ listing d bytes → Appends old new (take n text)
    → ListsFirst d input old new
lists_first d None old new bytes text n h e p = tt
lists_first d (Some xs) old new bytes text n h e p = (n, subst (Appends old new) (ap (take n) (e ∙ h)) p)

-- -- The answers

-- the whole listing is among its first bytes
pub first_whole : (d : Dialect) (input old new : Option (List ℕ)) → Lists d input old new → ListsFirst d input old new
first_whole d None old new p = tt
first_whole d (Some xs) old new p =
    let n : ℕ = length (listing d xs) in (n, subst (Appends old new) (sym (take_all n (listing d xs) (omega arith))) p)

-- so is nothing
pub first_none : (d : Dialect) (input old new : Option (List ℕ)) → Keeps old new → ListsFirst d input old new
first_none d None old new k = tt
first_none d (Some xs) old new k = (0, kept_none old new k)
