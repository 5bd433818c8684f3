-- Dual bounds as the lines of a log spell them: a divisor, and shares, each a multiplier and a cut. This project's own.
use Rattle.std.specs.Prelude.{ℕ, List, [], ◌∷◌, length, flat_map, map, Option, Some, None, slice_get}
use Rattle.std.specs.Fmt.{decimal}
use Rattle.geo_model.specs.Cover.{CoverOf}
use Rattle.geo_model.specs.Dual.{WeighedCover}
use Rattle.geo_model.specs.Limit.{LimitOf}
use Rattle.geo_model.specs.Network.{NetworkOf}
use Rattle.cut_pool.specs.Cut.{CutOf, cover_of}
use Rattle.cut_pool.specs.declared.share.Share.{Share}
use Rattle.bound_log.specs.CutText.{CutTextOf, cut_numbers, cut_words, displaced_by, text_of_cut}

-- ---- words

-- the words of a share: its multiplier `Y`, and those of its cut
abbrev pub share_words : ℕ × CutTextOf → List (List ℕ)
share_words share = decimal share.0 ∷ cut_words share.1

-- the words of a dual bound: the divisor `D`, the number of shares `R`, and those of the R shares
abbrev pub dual_words : ℕ → List (ℕ × CutTextOf) → List (List ℕ)
dual_words divisor shares = decimal divisor ∷ decimal (length shares) ∷ flat_map share_words shares

-- the numbers in the text of a share, from left to right, without their signs
abbrev pub share_numbers : ℕ × CutTextOf → List ℕ
share_numbers share = share.0 ∷ cut_numbers share.1

-- .. of a dual bound
abbrev pub dual_numbers : ℕ → List (ℕ × CutTextOf) → List ℕ
dual_numbers divisor shares = divisor ∷ length shares ∷ flat_map share_numbers shares

-- ---- covering inequalities

-- the covering inequality of a limit and a displacement, or of no limit
abbrev pub cover_at : NetworkOf → CutTextOf → Option LimitOf → CoverOf
cover_at network cut None = record { coefficients = []; bound = 0 }
cover_at network cut (Some limit) = cover_of network limit (displaced_by cut.pairs)

-- the covering inequality of a share's cut, with the share's multiplier
abbrev pub weighed_text : NetworkOf → ℕ × CutTextOf → WeighedCover
weighed_text network share = record { multiplier = share.0; cover = cover_at network share.1 (slice_get network.limits share.1.limit) }

-- ---- shares of a pool

-- a cut of a pool as a line spells it, or one that moves no unknown
abbrev pub text_or_none : Option CutOf → CutTextOf
text_or_none None = record { limit = 0; pairs = [] }
text_or_none (Some cut) = text_of_cut cut

-- a share of a cut of a pool as a line spells it
abbrev pub text_of_share : List CutOf → Share → ℕ × CutTextOf
text_of_share pool share = (share.y, text_or_none (slice_get pool share.cut))

-- those of shares
abbrev pub texts_of_shares : List CutOf → List Share → List (ℕ × CutTextOf)
texts_of_shares pool shares = map (text_of_share pool) shares
