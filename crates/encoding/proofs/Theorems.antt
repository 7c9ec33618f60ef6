-- The claims, proved.
use Rattle.encoding.specs.Claims.{Claims}
use Rattle.encoding.proofs.StateLaws.{encode_length}
use Rattle.encoding.proofs.ValidLaws.{valid_fits}
use Rattle.encoding.proofs.ExactLaws.{valid_exactly, fresh_valid, zeros_refused, size_small, size_most}
use Rattle.encoding.proofs.ExactReadLaws.{encode_shows, encode_exactly}
use Rattle.encoding.proofs.ExactStepLaws.{plan_number, deliver_number}

pub theorems : Claims
theorems =
    record {
      valid_exactly = valid_exactly;
      decode_valid = valid_fits;
      encode_shows = encode_shows;
      encode_exactly = encode_exactly;
      fresh_valid = fresh_valid;
      zeros_refused = zeros_refused;
      encode_length = encode_length;
      size_small = size_small;
      size_most = size_most;
      plan_number = plan_number;
      deliver_number = deliver_number;
    }
