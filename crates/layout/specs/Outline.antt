-- A transaction's outline: what it holds, with each part that 01's "Bearing bytes" excepts replaced by as many of one number as it has bytes.
-- 01's words stand at each: txids, blinding nonces, entropies, the 32-byte parts of assets, nonces and commitments (null ones have none),
-- and bodies of scripts, proofs and stack items. All else that is taken is bearing, and stays.
use Rattle.std.specs.Prelude.{ℕ, List, map, length, replicate}
use Rattle.std.proofs.Math.Option
use Rattle.layout.specs.Contents.{Value, null, explicit, commitment, Token, absent, present, Issuance, Input, Output, InputWitness, OutputWitness, Witnesses, Contents}

module _ (filler : ℕ) where
  abbrev pub blank : List ℕ → List ℕ
  blank bytes = replicate (length bytes) filler

  -- the 32-byte parts of assets and nonces; null ones have none
  abbrev pub token_outline : Token → Token
  token_outline absent = absent
  token_outline (present prefix part) = present prefix (blank part)

  -- the 32-byte parts of commitments; an explicit value is bearing
  abbrev pub value_outline : Value → Value
  value_outline null = null
  value_outline (explicit v) = explicit v
  value_outline (commitment prefix part) = commitment prefix (blank part)

  -- blinding nonces, entropies
  abbrev pub issuance_outline : Issuance → Issuance
  issuance_outline x =
      record {
        blinding_nonce = blank x.blinding_nonce;
        entropy = blank x.entropy;
        amount = value_outline x.amount;
        keys = value_outline x.keys;
      }

  -- txids, bodies of scripts
  abbrev pub input_outline : Input → Input
  input_outline x =
      record {
        txid = blank x.txid;
        vout = x.vout;
        flags = x.flags;
        script = blank x.script;
        sequence = x.sequence;
        issuance = Option.map issuance_outline x.issuance;
      }

  abbrev pub output_outline : Output → Output
  output_outline x =
      record {
        asset = token_outline x.asset;
        value = value_outline x.value;
        nonce = token_outline x.nonce;
        script = blank x.script;
      }

  -- bodies of proofs and stack items
  abbrev pub input_witness_outline : InputWitness → InputWitness
  input_witness_outline x =
      record {
        amount_proof = blank x.amount_proof;
        keys_proof = blank x.keys_proof;
        script_items = map blank x.script_items;
        pegin_items = map blank x.pegin_items;
      }

  abbrev pub output_witness_outline : OutputWitness → OutputWitness
  output_witness_outline x = record { surjection_proof = blank x.surjection_proof; range_proof = blank x.range_proof }

  abbrev pub witnesses_outline : Witnesses → Witnesses
  witnesses_outline x = record { inputs = map input_witness_outline x.inputs; outputs = map output_witness_outline x.outputs }

  abbrev pub outline_by : Contents → Contents
  outline_by x =
      record {
        version = x.version;
        inputs = map input_outline x.inputs;
        outputs = map output_outline x.outputs;
        locktime = x.locktime;
        witnesses = Option.map witnesses_outline x.witnesses;
      }

-- so many zeros
abbrev pub outline : Contents → Contents
outline = outline_by 0

-- Blotted out: 256 is no byte, so what is left of its bytes, as far as they are taken, is what bears.
abbrev pub blotted : Contents → Contents
blotted = outline_by 256
