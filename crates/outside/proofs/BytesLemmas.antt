-- Bytes added in several steps.
use Rattle.std.proofs.Common.{◌≡◌, ℕ, List, [], ◌++◌, Option, None, Some, ap, sym, ◌∙◌, append_assoc, append-nil, refl}
use Rattle.std.specs.Option.{option_map}
use Rattle.outside.specs.Bytes.{Added, AddedSome}

twice : (old : Option (List ℕ)) (x y : List ℕ) → option_map (λ b. b ++ y) (option_map (λ b. b ++ x) old) ≡ option_map (λ b. b ++ (x ++ y)) old
twice None x y = refl
twice (Some b) x y = ap Some (append_assoc b x y)

-- some bytes and then a piece
pub added_then : (old mid new : Option (List ℕ)) (front piece : List ℕ) → Added old mid front → Added mid new piece → Added old new (front ++ piece)
added_then old mid new front piece so_far step = step ∙ ap (option_map (λ b. b ++ piece)) so_far ∙ twice old front piece

-- nothing is added where the bytes are as before
pub added_nothing : (old : Option (List ℕ)) → Added old old []
added_nothing None = refl
added_nothing (Some b) = ap Some (sym (append-nil b))

-- some bytes and then a front of a piece
pub added_some_then : (old mid new : Option (List ℕ)) (front piece : List ℕ) → Added old mid front → AddedSome mid new piece → AddedSome old new (front ++ piece)
added_some_then old mid new front piece so_far s =
    (front ++ s.0, (s.1.0, ap (λ p. front ++ p) s.1.1 ∙ sym (append_assoc front s.0 s.1.0)), added_then old mid new front s.0 so_far s.2)

-- a front of some bytes is one of more bytes
pub added_some_more : (old new : Option (List ℕ)) (bytes rest : List ℕ) → AddedSome old new bytes → AddedSome old new (bytes ++ rest)
added_some_more old new bytes rest s = (s.0, (s.1.0 ++ rest, ap (λ p. p ++ rest) s.1.1 ∙ append_assoc s.0 s.1.0 rest), s.2)

-- all of the bytes are a front of them
pub added_some : (old new : Option (List ℕ)) (bytes : List ℕ) → Added old new bytes → AddedSome old new bytes
added_some old new bytes a = (bytes, ([], sym (append-nil bytes)), a)
