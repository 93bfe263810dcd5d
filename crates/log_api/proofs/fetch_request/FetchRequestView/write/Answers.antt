use Rattle.log_api.proofs.fetch_request.FetchRequestView.write.Goals as goal

-- each call's draft is that of the call before, and so back to the first
pub returns : goal.returns
returns c =
    rw (← c.in_ok-int32.ensures, ← c.in_ok-int32-2.ensures, ← c.in_ok-int32-3.ensures, ← c.in_ok-int32-4.ensures, ← c.in_ok-int8.ensures, ← c.in_ok-int32_in.ensures, ← c.in_ok-int32_in-2.ensures, ← c.in_ok-array.ensures, ← c.in_ok-array_in.ensures) c.in_ok-text_in.ensures
