use Rattle.std.proofs.Common.{◌∙◌, ◌≡◌, ap, ◌++◌, ◌-◌, take, min, length, arith}
use Rattle.proxy_main.proofs.LineCuts.{clipped}
use Rattle.proxy_main.proofs.replay.keep.Goals as goal

pub returns : goal.returns
returns c =
    let room : c.min-kept.result ≡ min (268435457 - length c.args.partial.now.items) (length c.args.piece.now) = omega (arith, c.min-kept.ensures, c.saturating_sub-room.ensures, c.len.ensures, c.args.partial.now.ok.0) in
    record { ok = λ le. c.in_ok-extend_from_slice.ensures.items ∙ ap (λ xs. c.args.partial.now.items ++ xs) (c.split_at.ensures.front ∙ ap (λ n. take n c.args.piece.now) room) ∙ clipped 268435457 _ _ le }
